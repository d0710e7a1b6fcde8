use Rattle.std.proofs.Common.{not, ◌&&◌, length, sym, ap, ◌∙◌}
use Rattle.std.proofs.lemmas.Bool.{lt-ltb, le-ltb}
use Rattle.lists.specs.Words.{member}
use Rattle.wires.specs.Parts.{numbers_of}
use Rattle.wires.proofs.Preferences.{left-member}
use Rattle.wires.proofs.left.Left.has.Goals as goal

pub returns-then-batch-self : goal.returns-then-batch-self
returns-then-batch-self c =
    let posts = c.self.inside.posts.now in
    let list = numbers_of c.self.inside.list.now in
    let b = c.args.batch in
    rw (← c.self.view_is) (ap not c.holds.ensures ∙ sym (left-member posts list b ∙ ap (λ t. t && not (member b list)) (lt-ltb b (length posts) c.if-batch-self.true)))

pub returns-else-batch-self : goal.returns-else-batch-self
returns-else-batch-self c =
    let posts = c.self.inside.posts.now in
    let list = numbers_of c.self.inside.list.now in
    let b = c.args.batch in
    let past = le-ltb b (length posts) c.if-batch-self.false in
    rw (← c.self.view_is) (past ∙ sym (left-member posts list b ∙ ap (λ t. t && not (member b list)) past))
