use Rattle.std.proofs.Common.{rules, tests, eqb}
use Rattle.std.proofs.lemmas.Iterator.{YieldsList-from_slice}
use Rattle.std.proofs.lemmas.Iterator.Search.{position_from_yields_List}
use Rattle.rooms.specs.Lists.{numbers_of}
use Rattle.rooms.proofs.Loops.{place_found}
use Rattle.rooms.proofs.batch_list.BatchList.place_of.Goals as goal

pub returns : goal.returns
returns c =
    let l = numbers_of c.args.self.now in
    let b = c.args.batch in
    place_found b l c.position.result (position_from_yields_List (λ y. eqb y b) _ _ c.position.result c.position.ensures.ran (YieldsList-from_slice l cc) (λ x t q k. search (rules, tests)))
