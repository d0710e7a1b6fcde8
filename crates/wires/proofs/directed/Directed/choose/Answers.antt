use Rattle.std.proofs.Common.{◌≡◌, ℕ, false, Some, Option, sym, ap, ◌∙◌, arith}
use Rattle.std.proofs.lemmas.Grind.{common_steps}
use Rattle.lists.specs.Words.{member}
use Rattle.wires.specs.Orders.{head, left, wish_first}
use Rattle.wires.proofs.Preferences.{wish-found, wish-missing}
use Rattle.wires.proofs.directed.Directed.choose.Goals as goal

pub returns-in-Some : goal.returns-in-Some
returns-in-Some c =
    let l = c.args.left.now in
    sym (ap (λ (wish : Option ℕ). head (wish_first wish l.posts l.list)) c.in-Some.is ∙ wish-found c.in-Some.wish (left l.posts l.list) (sym c.if-has.ensures))

pub returns-in_default : goal.returns-in_default
returns-in_default c =
    let l = c.args.left.now in
    let missing : (x : ℕ) → c.args.self.now.wish ≡ Some x → member x (left l.posts l.list) ≡ false → head (wish_first c.args.self.now.wish l.posts l.list) ≡ head (left l.posts l.list) =
    λ x is none. ap (λ (wish : Option ℕ). head (wish_first wish l.posts l.list)) is ∙ wish-missing x (left l.posts l.list) none in
    grind (arith, common_steps, missing)
