use Rattle.std.proofs.Common.{rules, tests, ◌≡◌, true, ◌++◌, sym, ap, ◌∙◌}
use Rattle.std.specs.List.{find}
use Rattle.std.proofs.lemmas.Iterator.{YieldsList-from_slice}
use Rattle.std.proofs.lemmas.Iterator.Adapters.{option_map_id}
use Rattle.std.proofs.lemmas.Iterator.Consumers.{YieldsList-from_chain, YieldsList-from_copied}
use Rattle.std.proofs.lemmas.Iterator.Search.{find_from_yields_List}
use Rattle.sets.specs.Sets.{sized}
use Rattle.order.specs.Works.{Works, set_of}
use Rattle.rooms.specs.Views.{works_in}
use Rattle.rooms.specs.Lists.{numbers_of}
use Rattle.rooms.proofs.Firsts.{decides, led_told, led-not}
use Rattle.rooms.proofs.room.Room.leads_lines.Goals as goal

pub returns-then-lies_within : goal.returns-then-lies_within
returns-then-lies_within g c =
    let w : Works = works_in c.args.works.now in
    let b = c.args.batch in
    let q = c.args.leader in
    let xs = numbers_of c.args.self.now.settled in
    let ys = numbers_of c.args.self.now.waiting in
    let first = c.find.result in
    let found : first ≡ find (decides w b q) (xs ++ ys) =
    sym (option_map_id first) ∙ find_from_yields_List (decides w b q) _ _ first c.find.ensures.ran (YieldsList-from_copied (YieldsList-from_chain (YieldsList-from_slice xs cc) (YieldsList-from_slice ys cc) (cc) (cc))) (λ x t p k. search (rules, tests)) in
    let some : sized (set_of w b) ≡ true = ap sized (sym c.set_of-set.ensures.value) ∙ c.set_of-set.ensures.sized in
    c.eq.ensures ∙ led_told w b q some (xs ++ ys) first found (rw (c.set_of-set.ensures.value, c.set_of.ensures.value) at (sym c.lies_within.ensures ∙ c.if-lies_within.true))

pub returns-else-lies_within : goal.returns-else-lies_within
returns-else-lies_within g c =
    let w : Works = works_in c.args.works.now in
    let b = c.args.batch in
    let r = c.args.self.now in
    let some : sized (set_of w b) ≡ true = ap sized (sym c.set_of-set.ensures.value) ∙ c.set_of-set.ensures.sized in
    c.if-lies_within.false ∙ led-not w b c.args.leader some (numbers_of r.settled ++ numbers_of r.waiting) (rw (c.set_of-set.ensures.value, c.set_of.ensures.value) at (sym c.lies_within.ensures ∙ c.if-lies_within.false))
