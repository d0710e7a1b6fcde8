use Rattle.std.proofs.Common.{◌≡◌, ℕ, ◌+◌, ◌-◌, ◌<◌, Bool, cond, not, ◌&&◌, length, get_or, take, drop, is_some, None, Option, sym, ap, ◌∙◌, arith}
use Rattle.std.proofs.lemmas.List.{take_rest}
use Rattle.lists.specs.Words.{member}
use Rattle.batches.specs.declared.outcome.RunResult.{RunResult}
use Rattle.order.specs.Works.{Works, share}
use Rattle.rooms.specs.Records.{blank}
use Rattle.rooms.specs.Settles.{would_lose, unmarked}
use Rattle.rooms.specs.Views.{works_in}
use Rattle.rooms.proofs.Moves.{length-turn}
use Rattle.rooms.proofs.Throws.{mark-here, marks-turn, names_turn, lost-all, place-known}
use Rattle.rooms.proofs.next.Next.throw_marks.Goals as goal
use Rattle.rooms.proofs.next.Next.throw_marks.Goals.{then-throw_one, else-throw_one}

pub loop-at-preserved : goal.loop-at-preserved
loop-at-preserved g c =
    let w : Works = works_in c.args.self.now.works.now in
    let q : ℕ → Bool = would_lose w c.args.records.now c.args.self.now.batch in
    let old : ℕ → Option RunResult = λ a. (get_or c.args.records.now a blank).mark in
    let l = c.args.waiting.now in
    let i = c.loop-at.at in
    let h = c.loop-at-test.true in
    let b = get_or l i 0 in
    let table = c.loop-at.records in
    let new = c.throw_one.new.records in
    let inv = c.loop-at.invariant in
    let now = inv.2 in
    let e = c.throw_one.ensures in
    let k : get_or l i 0 < length c.loop-at.records = omega (arith, place-known l i c.requires.known, c.requires.table, c.loop-at.auto.records) in
    let same : would_lose w table c.args.self.now.batch b ≡ q b = ap (λ (m : Option RunResult). share w b c.args.self.now.batch && is_some m) (mark-here q l i h table old now) in
    let is : new ≡ cond (q b && not (member b (drop (i + 1) l))) (unmarked table b) table =
    e.after ∙ ap (λ t. cond (t && not (member b (take (length l - (i + 1)) (drop (i + 1) l)))) (unmarked table b) table) same ∙ ap (λ r. cond (q b && not (member b r)) (unmarked table b) table) (take_rest l (i + 1)) in
    let marks = marks-turn q l i h table old now k new is in
    let names = λ (a : ℕ). names_turn q l i h table old now k new is a ∙ inv.3 a in
    let loses : q b ≡ c.throw_one.result = sym (e.value ∙ same) in
    elim c.if-throw_one.branch [
      | then-throw_one w ↦ (omega (arith, w.thrown-is, length-turn q l i h, ap {B = ℕ} (λ t. cond t 1 0) (loses ∙ w.if-throw_one.true), inv.0), omega (arith, w.thrown-is, inv.1), marks, names)
      | else-throw_one w ↦ (omega (arith, w.thrown-is, length-turn q l i h, ap {B = ℕ} (λ t. cond t 1 0) (loses ∙ w.if-throw_one.false), inv.0), omega (arith, w.thrown-is, inv.1), marks, names)
    ]

pub returns-clause-marks : goal.returns-clause-marks
returns-clause-marks g c =
    let q : ℕ → Bool = would_lose (works_in c.args.self.now.works.now) c.args.records.now c.args.self.now.batch in
    let old : ℕ → Option RunResult = λ a. (get_or c.args.records.now a blank).mark in
    λ a. c.loop-at.invariant.2 a ∙ ap (λ b. cond b None (old a)) (lost-all q c.args.waiting.now c.loop-at.at c.loop-at-test.false a)
