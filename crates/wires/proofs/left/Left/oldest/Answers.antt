use Rattle.std.proofs.Common.{rules, tests, arith, sym, refl, ◌∙◌, not, length}
use Rattle.std.proofs.lemmas.Iterator.{YieldsList-from_range}
use Rattle.std.proofs.lemmas.Iterator.Search.{find_from_yields_List}
use Rattle.std.proofs.lemmas.Iterator.Adapters.{option_map_id}
use Rattle.lists.specs.Words.{member}
use Rattle.wires.specs.Parts.{numbers_of}
use Rattle.wires.proofs.Scans.{left-first}
use Rattle.wires.proofs.left.Left.oldest.Goals as goal

pub returns : goal.returns
returns c =
    let posts = c.self.inside.posts.now in
    let list = numbers_of c.self.inside.list.now in
    let found = find_from_yields_List (λ b. not (member b list)) _ _ c.find.result c.find.ensures.ran (YieldsList-from_range 0 (length posts) (length posts) refl (omega arith)) (λ x b q k. search (rules, tests)) in
    rw (← c.self.view_is) (sym (option_map_id c.find.result) ∙ found ∙ left-first posts list)
