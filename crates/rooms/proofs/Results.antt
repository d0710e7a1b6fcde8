-- A run on a book's amounts as the code makes it: on the amounts of the batch's bases alone, packed afterwards. What a run
-- does on its bases depends on these alone.
use Rattle.std.proofs.Common.{◌≡◌, ℕ, ◌-◌, ◌≤◌, true, leb, List, [], ◌∷◌, ◌++◌, map, length, replicate, None, Ok, Err, Result, IsOk, rules, refl, ap, ◌∙◌}
use Rattle.std.proofs.lemmas.Bool.{and_parts, leb-true}
use Rattle.lists.specs.Words.{member}
use Rattle.lists.proofs.Members.{member-head, member-tail}
use Rattle.std.specs.Result.{result_err}
use Rattle.sets.specs.Sets.{bases, size}
use Rattle.stock.specs.Stock.{Amounts, packed}
use Rattle.stock.specs.BySet.{only}
use Rattle.batches.specs.Batches.{Batch, batch_right, batch_cause, step_cause}
use Rattle.batches.specs.Runs.{Ran, run}
use Rattle.batches.specs.Laws.{Alike, SameRun}
use Rattle.batches.specs.declared.outcome.RunResult.{RunResult}
use Rattle.batches.specs.declared.step.Step.TheVariants.{Add}
use Rattle.batches.proofs.Runs.{own_bases-count}
use Rattle.order.proofs.Runs.{sized_of}
use Rattle.agreement.specs.Rooms.{result_of}

map_same : (m n : Amounts) (bs : List ℕ) → ((x : ℕ) → member x bs ≡ true → m x ≡ n x) → map m bs ≡ map n bs
map_same m n [] h = refl
map_same m n (x ∷ bs) h = rw (h x (member-head x bs), map_same m n bs (λ y e. h y (member-tail y x bs e)))

-- packed amounts are those of the set's bases
packed-same : (set : ℕ) (m n : Amounts) → Alike set m n → packed set m ≡ packed set n
packed-same set m n h = ap (λ l. l ++ replicate (8 - length (bases set)) 0) (map_same m n (bases set) h)

pub few-bases : (b : Batch) → batch_right b ≡ true → size b.set ≤ 8
few-bases b h = leb-true (size b.set) 8 (and_parts (leb 1 (size b.set)) (leb (size b.set) 8) (sized_of b h)).1

module _ (b : Batch) (right : batch_right b ≡ true) (m read : Amounts) (only-own : read ≡ only b.set m) (ran : Ran) (is : ran ≡ run b read) where
  same : SameRun b.set ran (run b m)
  same = rw is (own_bases-count b right read m (λ x h. ap (λ (f : Amounts). f x) only-own ∙ rw h))

  pub result_is : (values : List ℕ) → values ≡ packed b.set ran.after → ◌≡◌ {A = RunResult} (record { outcome = ran.outcome; step = ran.step; amounts = values }) (result_of b m)
  result_is values e =
      let v : values ≡ packed b.set (run b m).after = e ∙ packed-same b.set ran.after (run b m).after same.after in
      λ i. record { outcome = same.outcome i; step = same.step i; amounts = v i }

-- what stands for a batch that is not posted keeps every rule
pub set-taken : batch_cause 1 ≡ None
unfolding bases
set-taken = refl

pub step-taken : step_cause (record { set = 1; steps = [] }) (Add 0 1) ≡ None
unfolding bases
step-taken = refl

-- a call with no cause against it is taken
pub taken : {A E : Type 0} (r : Result A E) → result_err r ≡ None → IsOk r
taken (Ok a) e = search rules
taken (Err x) e = absurd (cc)
