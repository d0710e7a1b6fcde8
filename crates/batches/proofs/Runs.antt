-- The laws of a run, by induction over the steps: each step changes bases of the set alone, looks at these alone, and
-- changes the total by what it adds or draws; the first step that is not done ends the run.
use Rattle.std.proofs.Common.{◌≡◌, ℕ, zero, suc, ◌+◌, ◌-◌, ◌<◌, ◌≤◌, true, false, eqb, List, [], ◌∷◌, length, get_or, take, sym, refl, ap, ◌∙◌, add-zero, arith}
use Rattle.std.proofs.lemmas.Bool.{and_parts}
use Rattle.lists.specs.Words.{member, all, updated}
use Rattle.sets.specs.Sets.{bases}
use Rattle.sets.proofs.Bases.{base_below}
use Rattle.stock.specs.Stock.{Amounts}
use Rattle.batches.specs.declared.outcome.Outcome.{Outcome}
use Rattle.batches.specs.declared.outcome.Outcome.TheVariants.{Done, Short, Over}
use Rattle.batches.specs.declared.step.Step.{Step}
use Rattle.batches.specs.declared.step.Step.TheVariants.{Add, Draw, Move}
use Rattle.batches.specs.Batches.{step_right}
use Rattle.batches.specs.Runs.{Ran, step_outcome, step_after, go_on, run_from}
use Rattle.batches.specs.Laws.{OthersStay, Alike, SameRun, OwnBasesCount, LimitHolds, DoneOrFails, stock_below, total, added, drawn, TotalFollows}
use Rattle.batches.proofs.RightSteps.{steps-right}

-- what a right step says of its bases
module _ (set : ℕ) where
  add_base : (b n : ℕ) → step_right set (Add b n) ≡ true → member b (bases set) ≡ true
  add_base b n h = grind arith

  move_bases : (b c n : ℕ) → step_right set (Move b c n) ≡ true → (member b (bases set) ≡ true) × (member c (bases set) ≡ true) × (eqb b c ≡ false)
  move_bases b c n h = (grind arith, grind arith, grind arith)

-- no base outside the set changes

after_away : (set : ℕ) (t : Step) → step_right set t ≡ true → (m : Amounts) (x : ℕ) → member x (bases set) ≡ false → step_after t m x ≡ m x
after_away set (Add b n) h m x f = grind arith
after_away set (Draw b n) h m x f = grind arith
after_away set (Move b c n) h m x f = grind arith

go_on_away : (o : Outcome) (place : ℕ) (start : Amounts) (rest : Ran) (x : ℕ) → rest.after x ≡ start x → (go_on o place start rest).after x ≡ start x
go_on_away Done place start rest x h = h
go_on_away Short place start rest x h = refl
go_on_away Over place start rest x h = refl

from_away : (set : ℕ) (ts : List Step) → all (step_right set) ts ≡ true → (place : ℕ) (start m : Amounts) (x : ℕ) → member x (bases set) ≡ false → m x ≡ start x → (run_from ts place start m).after x ≡ start x
from_away set [] h place start m x f e = e
from_away set (t ∷ ts) h place start m x f e =
    let z = and_parts (step_right set t) (all (step_right set) ts) h in
    go_on_away (step_outcome t m) place start _ x (from_away set ts z.1 (suc place) start (step_after t m) x f (after_away set t z.0 m x f ∙ e))

pub others_stay : OthersStay
others_stay b h m x f = from_away b.set b.steps (steps-right b h) 0 m m x f refl

-- the bases of the set alone count

module _ (set : ℕ) where
  outcome_alike : (t : Step) → step_right set t ≡ true → (m n : Amounts) → Alike set m n → step_outcome t m ≡ step_outcome t n
  outcome_alike (Add b v) h m n e = rw (e b (add_base set b v h))
  outcome_alike (Draw b v) h m n e = rw (e b (add_base set b v h))
  outcome_alike (Move b c v) h m n e = let z = move_bases set b c v h in rw (e b z.0, e c z.1)

  after_alike : (t : Step) → step_right set t ≡ true → (m n : Amounts) → Alike set m n → Alike set (step_after t m) (step_after t n)
  after_alike (Add b v) h m n e x hx = rw (e b (add_base set b v h), e x hx)
  after_alike (Draw b v) h m n e x hx = rw (e b (add_base set b v h), e x hx)
  after_alike (Move b c v) h m n e x hx = let z = move_bases set b c v h in rw (e b z.0, e c z.1, e x hx)

  go_on_alike : (o : Outcome) (place : ℕ) (start start' : Amounts) (rest rest' : Ran) → Alike set start start' → SameRun set rest rest' → SameRun set (go_on o place start rest) (go_on o place start' rest')
  go_on_alike Done place start start' rest rest' e h = h
  go_on_alike Short place start start' rest rest' e h = record { outcome = refl; step = refl; after = e }
  go_on_alike Over place start start' rest rest' e h = record { outcome = refl; step = refl; after = e }

  from_alike : (ts : List Step) → all (step_right set) ts ≡ true → (place : ℕ) (start start' m n : Amounts) → Alike set start start' → Alike set m n → SameRun set (run_from ts place start m) (run_from ts place start' n)
  from_alike [] h place start start' m n s e = record { outcome = refl; step = refl; after = e }
  from_alike (t ∷ ts) h place start start' m n s e =
      let z = and_parts (step_right set t) (all (step_right set) ts) h in
      rw (outcome_alike t z.0 m n e) (go_on_alike (step_outcome t n) place start start' _ _ s (from_alike ts z.1 (suc place) start start' (step_after t m) (step_after t n) s (after_alike t z.0 m n e)))

pub own_bases-count : OwnBasesCount
own_bases-count b h m n e = from_alike b.set b.steps (steps-right b h) 0 m n m n e e

-- amounts stay within the limit

abbrev Small : Amounts → Type 0
Small m = (x : ℕ) → m x ≤ 1000000000

after_small : (t : Step) (m : Amounts) → Small m → step_outcome t m ≡ Done → Small (step_after t m)
after_small (Add b n) m h e x = let z = h x in grind arith
after_small (Draw b n) m h e x = let z = h x in let y = h b in grind arith
after_small (Move b c n) m h e x = let z = h x in let y = h b in grind arith

go_on-small : (o : Outcome) (place : ℕ) (start : Amounts) (rest : Ran) → Small start → (o ≡ Done → Small rest.after) → Small (go_on o place start rest).after
go_on-small Done place start rest h k = k refl
go_on-small Short place start rest h k = h
go_on-small Over place start rest h k = h

from-small : (ts : List Step) (place : ℕ) (start m : Amounts) → Small start → Small m → Small (run_from ts place start m).after
from-small [] place start m s h = h
from-small (t ∷ ts) place start m s h = go_on-small (step_outcome t m) place start (run_from ts (suc place) start (step_after t m)) s (λ e. from-small ts (suc place) start (step_after t m) s (after_small t m h e))

pub limit_holds : LimitHolds
limit_holds b m h = from-small b.steps 0 m m h h

-- the total

below_away : (n : ℕ) (m : Amounts) (b v : ℕ) → n ≤ b → stock_below n (updated m b v) ≡ stock_below n m
below_away zero m b v h = refl
below_away (suc n) m b v h = let rest = below_away n m b v in grind arith

below-updated : (n : ℕ) (m : Amounts) (b v : ℕ) → b < n → stock_below n (updated m b v) + m b ≡ stock_below n m + v
below-updated zero m b v h = absurd (omega arith)
below-updated (suc n) m b v h = let rest = below-updated n m b v in let away = below_away n m b v in grind arith

total-updated : (m : Amounts) (b v : ℕ) → b < 32 → total (updated m b v) + m b ≡ total m + v
unfolding total
total-updated m b v h = below-updated 32 m b v h

-- a step that is done, before steps that lead to a total
total-step : (set : ℕ) (t : Step) (ts : List Step) (m : Amounts) (last : ℕ) → step_right set t ≡ true → step_outcome t m ≡ Done → last + drawn ts ≡ total (step_after t m) + added ts → last + drawn (t ∷ ts) ≡ total m + added (t ∷ ts)
total-step set (Add b n) ts m last h e r =
    omega (arith, total-updated m b (m b + n) (base_below set b (add_base set b n h)))
total-step set (Draw b n) ts m last h e r =
    let enough : n ≤ m b = grind arith in
    omega (arith, total-updated m b (m b - n) (base_below set b (add_base set b n h)))
total-step set (Move b c n) ts m last h e r =
    let z = move_bases set b c n h in
    let enough : n ≤ m b = grind arith in
    let m1 : Amounts = updated m b (m b - n) in
    let same : m1 c ≡ m c = let apart = z.2 in grind arith in
    let one = total-updated m b (m b - n) (base_below set b z.0) in
    let two = total-updated m1 c (m c + n) (base_below set c z.1) in
    omega arith

go_on-done : (o : Outcome) (place : ℕ) (start : Amounts) (rest : Ran) → (go_on o place start rest).outcome ≡ Done → (o ≡ Done) × (go_on o place start rest ≡ rest)
go_on-done Done place start rest e = (refl, refl)
go_on-done Short place start rest e = cc
go_on-done Over place start rest e = cc

from-total : (set : ℕ) (ts : List Step) → all (step_right set) ts ≡ true → (place : ℕ) (start m : Amounts) → (run_from ts place start m).outcome ≡ Done → total (run_from ts place start m).after + drawn ts ≡ total m + added ts
from-total set [] h place start m e = refl
from-total set (t ∷ ts) h place start m e =
    let z = and_parts (step_right set t) (all (step_right set) ts) h in
    let rest : Ran = run_from ts (suc place) start (step_after t m) in
    let d = go_on-done (step_outcome t m) place start rest e in
    total-step set t ts m _ z.0 d.0 (rw d.1 (from-total set ts z.1 (suc place) start (step_after t m) (rw d.1 at e)))

pub total_follows : TotalFollows
total_follows b h m e = from-total b.set b.steps (steps-right b h) 0 m m e

-- the step that fails

done-tells-none : (ts : List Step) (place : ℕ) (start m : Amounts) → (run_from ts place start m).outcome ≡ Done → (run_from ts place start m).step ≡ 0
done-tells-none [] place start m e = refl
done-tells-none (t ∷ ts) place start m e =
    let rest : Ran = run_from ts (suc place) start (step_after t m) in
    let d = go_on-done (step_outcome t m) place start rest e in
    rw d.1 (done-tells-none ts (suc place) start (step_after t m) (rw d.1 at e))

-- the run of steps from a place on fails at the k-th of them
record FailsFrom (ts : List Step) (place : ℕ) (start m : Amounts) (k : ℕ) : Type 0 where
  there : k < length ts
  done : (run_from (take k ts) place start m).outcome ≡ Done
  outcome : (t : Step) → step_outcome (get_or ts k t) (run_from (take k ts) place start m).after ≡ (run_from ts place start m).outcome
  step : (run_from ts place start m).step ≡ suc (place + k)
  after : (run_from ts place start m).after ≡ start

-- by the outcome of the first step, where the others fail if it is done
fails-first : (t : Step) (ts : List Step) (place : ℕ) (start m : Amounts) (o : Outcome) → step_outcome t m ≡ o → (o ≡ Done → (k : ℕ) × FailsFrom ts (suc place) start (step_after t m) k) → (k : ℕ) × FailsFrom (t ∷ ts) place start m k
fails-first t ts place start m Done e later =
    let k : ℕ = (later refl).0 in
    let f = (later refl).1 in
    let low = f.there in
    let one_more : suc (suc place + k) ≡ suc (place + suc k) = omega arith in
    (suc k, record { there = omega arith; done = rw e f.done; outcome = λ d. rw e (f.outcome d); step = rw e (f.step ∙ one_more); after = rw e f.after })
fails-first t ts place start m Short e later = (0, record { there = omega arith; done = refl; outcome = λ _. rw e; step = rw e (ap suc (sym (add-zero place))); after = rw e })
fails-first t ts place start m Over e later = (0, record { there = omega arith; done = refl; outcome = λ _. rw e; step = rw e (ap suc (sym (add-zero place))); after = rw e })

fails-from : (ts : List Step) (place : ℕ) (start m : Amounts) → ((run_from ts place start m).outcome ≡ Done → ⊥) → (k : ℕ) × FailsFrom ts place start m k
fails-from [] place start m ne = absurd (ne refl)
fails-from (t ∷ ts) place start m ne = fails-first t ts place start m (step_outcome t m) refl (λ e. fails-from ts (suc place) start (step_after t m) (λ d. ne (rw e d)))

pub done_or_fails : DoneOrFails
done_or_fails b m = (
  done-tells-none b.steps 0 m m,
  λ ne. let z = fails-from b.steps 0 m m ne in let f = z.1 in let here : suc (0 + z.0) ≡ suc z.0 = omega arith in
      (z.0, record { there = f.there; done = f.done; outcome = f.outcome; step = f.step ∙ here; after = f.after }),
)
