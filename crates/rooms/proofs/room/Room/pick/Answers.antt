use Rattle.std.proofs.Common.{rules, tests, ◌≡◌, ◌++◌, sym, ◌∙◌}
use Rattle.std.specs.List.{find}
use Rattle.std.proofs.lemmas.Iterator.{YieldsList-from_slice}
use Rattle.std.proofs.lemmas.Iterator.Adapters.{option_map_id}
use Rattle.std.proofs.lemmas.Iterator.Consumers.{YieldsList-from_chain, YieldsList-from_copied}
use Rattle.std.proofs.lemmas.Iterator.Search.{find_from_yields_List}
use Rattle.order.specs.Works.{Works}
use Rattle.rooms.specs.Views.{room_of, works}
use Rattle.rooms.specs.Lists.{numbers_of}
use Rattle.rooms.proofs.Causes.{may_run, picked}
use Rattle.rooms.proofs.room.Room.pick.Goals as goal

pub returns : goal.returns
returns g c =
    let r = c.args.self.now in
    let w : Works = works c.args.plan.now (g.W.Wire.meaning c.args.wire.now) in
    let xs = numbers_of r.settled in
    let ys = numbers_of r.waiting in
    let may = may_run w r.number (room_of r) in
    let found : c.find.result ≡ find may (xs ++ ys) =
    sym (option_map_id c.find.result) ∙ find_from_yields_List may _ _ c.find.result c.find.ensures.ran (YieldsList-from_copied (YieldsList-from_chain (YieldsList-from_slice xs cc) (YieldsList-from_slice ys cc) (cc) (cc))) (λ x t p k. search (rules, tests)) in
    record { value = picked w r.number (room_of r) c.find.result found }
