use Rattle.std.proofs.Common.{rules, tests}
use Rattle.std.proofs.lemmas.Iterator.{YieldsList-from_slice}
use Rattle.std.proofs.lemmas.Iterator.Consumers.{YieldsList-from_enumerate}
use Rattle.std.proofs.lemmas.Iterator.Search.{position_from_yields_List}
use Rattle.wires.specs.Parts.{numbers_of}
use Rattle.wires.proofs.Scans.{of_room, left_of-first}
use Rattle.wires.proofs.left.Left.oldest_of.Goals as goal

pub returns : goal.returns
returns c =
    let posts = c.self.inside.posts.now in
    let list = numbers_of c.self.inside.list.now in
    let found = position_from_yields_List (of_room list c.args.room) _ _ c.position.result c.position.ensures.ran (YieldsList-from_enumerate (YieldsList-from_slice posts cc) cc) (λ x b q k. search (rules, tests)) in
    rw (← c.self.view_is) (left_of-first posts list c.args.room c.position.result found)
