-- The worked shift: each call's cause and answer by computing, and that its end is quiet by going through rooms and batches.
use Rattle.std.proofs.Common.{◌≡◌, ℕ, ◌<◌, ◌≤◌, Bool, true, false, cond, ◌||◌, eqb, leb, ◌⊎◌, [], ◌∷◌, None, sym, refl, ◌∙◌, subst, inl, inr, arith}
use Rattle.std.proofs.lemmas.Bool.{eq-eqb, or_parts, leb-false, both_ways}
use Rattle.lists.specs.Words.{member}
use Rattle.refusals.specs.declared.refusal.Refusal.TheVariants.{UnknownBatch, NotMaster, AlreadyInstalled, OutOfRange, NothingWaits}
use Rattle.sets.specs.Sets.{bases}
use Rattle.batches.specs.declared.outcome.Outcome.TheVariants.{Done, Short}
use Rattle.stock.specs.Stock.{Spends}
use Rattle.wire.specs.Calls.{announcement_waits}
use Rattle.agreement.specs.Rooms.{heard_here, run_cause, release_cause, install_cause}
use Rattle.agreement.specs.Houses.{Given, House, opened, Openable, works}
use Rattle.agreement.specs.Calls.{post, number, hear, settle, run, release, install, done, batch, settled, ran, cause, after_post, after_number, after_hear, after_settle, after_run, after_release, after_install, refuses, posts, numbers, hears, settles, runs, releases, installs, tells, picks, Performed, opens, also}
use Rattle.agreement.specs.Promises.{Quiet}
use Rattle.agreement.specs.WorkedShift.{shift_given, draws_900, draws_300, shift_calls, WorkedShift}
use Rattle.agreement.proofs.Causes.{passed, passed_not, room_passed}

abbrev g : Given
g = shift_given

-- the house along the way
abbrev numbered : House
numbered = after_number (after_number (after_post (after_post (opened g) 1 draws_900) 0 draws_300) 0) 1

abbrev settled_0 : House
settled_0 = after_settle g (after_hear (after_hear numbered 0 1) 0 0) 0

abbrev ran_1 : House
ran_1 = after_run g settled_0 0 1

abbrev released_1 : House
released_1 = after_release g ran_1 0 1 4096

abbrev ran_0 : House
ran_0 = after_run g released_1 0 0

abbrev released_0 : House
released_0 = after_release g ran_0 0 0 4096

abbrev settled_1 : House
settled_1 = after_settle g (after_hear (after_hear released_0 1 0) 1 1) 1

abbrev installed_1 : House
installed_1 = after_install g settled_1 1 0 4095

abbrev end : House
end = after_install g installed_1 1 0 4093

openable : Openable g
unfolding bases
openable = record { plan = refl; books = λ k. record { small = λ x. low (eqb x 0); none_above = λ x l. let f : eqb x 0 ≡ false = ne x l in rw f } }
  where
    low : (t : Bool) → cond t 1000 0 ≤ 1000000000
    low true = omega arith
    low false = omega arith

    ne : (x : ℕ) → 31 < x → eqb x 0 ≡ false
    ne x l = grind arith

performed-numbered : Performed g ((post 1 draws_900, batch 0) ∷ (post 0 draws_300, batch 1) ∷ (number, batch 0) ∷ (number, batch 1) ∷ []) numbered
unfolding bases
performed-numbered = also (also (also (also (opens openable) (posts refl refl)) (posts refl refl)) (numbers refl (record { posted = omega arith; new = refl }))) (numbers refl (record { posted = omega arith; new = refl }))

performed-released : Performed g ((post 1 draws_900, batch 0) ∷ (post 0 draws_300, batch 1) ∷ (number, batch 0) ∷ (number, batch 1) ∷ (hear 0, batch 1) ∷ (hear 0, batch 0) ∷ (settle 0, settled 0 1 0)
    ∷ (run 0 1, ran Done 0) ∷ (release 0 1, done) ∷ (run 0 0, ran Short 1) ∷ (release 0 0, done) ∷ []) released_0
unfolding bases
performed-released = also (also (also (also (also (also (also performed-numbered
    (hears {b = 1} refl (record { posted = omega arith; new = refl }))) (hears {b = 0} refl (record { posted = omega arith; new = refl }))) (settles refl))
    (runs refl)) (releases {left = 4096} refl spent)) (runs refl)) (releases {left = 4096} refl (record { at_most = omega arith; no_more = omega arith }))
  where
    spent : Spends 1 4096 4096
    spent = record { at_most = omega arith; no_more = omega arith }

-- two rooms, and what they have heard and installed
two : (k : ℕ) → k < 2 → (k ≡ 0) ⊎ (k ≡ 1)
two k h = grind arith

-- in either room all that is heard is installed
heard_in : (k b : ℕ) → k < 2 → heard_here (end.room k) b ≡ true → member b (end.room k).installed ≡ false → ⊥
unfolding bases
heard_in k b l h f = elim (two k l) [
  | inl e ↦ both_ways (member b (1 ∷ 0 ∷ [])) (subst (λ k. member b (end.room k).installed ≡ false) e f) (subst (λ k. heard_here (end.room k) b ≡ true) e h)
  | inr e ↦ both_ways (member b (1 ∷ 0 ∷ [])) (subst (λ k. member b (end.room k).installed ≡ false) e f) (subst (λ k. heard_here (end.room k) b ≡ true) e h)
]

no_run_at : (k b : ℕ) → k < 2 → run_cause (works g end) k (end.room k) b ≡ None → ⊥
no_run_at k b l c =
    let c1 = passed_not (heard_here (end.room k) b) UnknownBatch _ c in
    let c2 = passed_not (eqb ((works g end).master b) k) NotMaster _ c1.1 in
    let c3 = passed (member b (end.room k).installed) AlreadyInstalled _ c2.1 in
    heard_in k b l c1.0 c3.0

performed : Performed g shift_calls end
unfolding bases
performed = also (also (also (also (also (also (also (also performed-released
    (hears {b = 0} refl (record { posted = omega arith; new = refl }))) (hears {b = 1} refl (record { posted = omega arith; new = refl }))) (settles refl))
    (installs {left = 4095} refl (record { at_most = omega arith; no_more = omega arith }))) (installs {left = 4093} refl (record { at_most = omega arith; no_more = omega arith })))
    (tells refl)) (picks {o = None} refl (λ b. no_run_at 0 b (omega arith)))) (refuses refl)

no_run : (k b : ℕ) → cause g end (run k b) ≡ None → ⊥
no_run k b c = let c0 = room_passed g.plan k (run_cause (works g end) k (end.room k) b) c in no_run_at k b c0.0 c0.1

no_release : (k b : ℕ) → cause g end (release k b) ≡ None → ⊥
no_release k b c =
    let c0 = room_passed g.plan k (release_cause (works g end) k (end.room k) (end.book k) b) c in
    let c1 = passed_not (heard_here (end.room k) b) UnknownBatch _ c0.1 in
    let c2 = passed_not (eqb ((works g end).master b) k) NotMaster _ c1.1 in
    let c3 = passed (member b (end.room k).installed) AlreadyInstalled _ c2.1 in
    heard_in k b c0.0 c1.0 c3.0

no_install : (k m : ℕ) → cause g end (install k m) ≡ None → ⊥
unfolding bases
no_install k m c =
    let c0 = room_passed g.plan k (install_cause 2 (works g end) end.wire k (end.room k) (end.book k) m) c in
    let c1 = passed (leb 2 m || eqb m k) OutOfRange _ c0.1 in
    let c2 = passed_not (announcement_waits end.wire k m) NothingWaits _ c1.1 in
    let z = or_parts (leb 2 m) (eqb m k) c1.0 in
    elim (two k c0.0) [
      | inl e ↦ elim (two m (leb-false 2 m z.0)) [ inl f ↦ same 0 e f z.1 | inr f ↦ ended 0 1 e f refl c2.0 ]
      | inr e ↦ elim (two m (leb-false 2 m z.0)) [ inl f ↦ ended 1 0 e f refl c2.0 | inr f ↦ same 1 e f z.1 ]
    ]
  where
    same : (n : ℕ) → k ≡ n → m ≡ n → eqb m k ≡ false → ⊥
    same n e f h = both_ways (eqb m k) h (eq-eqb m k (f ∙ sym e))

    ended : (n r : ℕ) → k ≡ n → m ≡ r → announcement_waits end.wire n r ≡ false → announcement_waits end.wire k m ≡ true → ⊥
    ended n r e f h c = both_ways (announcement_waits end.wire n r) h (subst (λ k. announcement_waits end.wire k r ≡ true) e (subst (λ m. announcement_waits end.wire k m ≡ true) f c))

all_settled : (k b : ℕ) → k < 2 → b < 2 → (member b (end.room k).settled || member b (end.room k).installed) ≡ true
unfolding bases
all_settled k b hk hb = elim (two k hk) [
  | inl e ↦ elim (two b hb) [ inl f ↦ at 0 0 e f refl | inr f ↦ at 0 1 e f refl ]
  | inr e ↦ elim (two b hb) [ inl f ↦ at 1 0 e f refl | inr f ↦ at 1 1 e f refl ]
]
  where
    at : (n c : ℕ) → k ≡ n → b ≡ c → (member c (end.room n).settled || member c (end.room n).installed) ≡ true → (member b (end.room k).settled || member b (end.room k).installed) ≡ true
    at n c e f h = rw (e, f) h

quiet : Quiet g end
quiet = record { settled = all_settled; spare = spare; no_run = no_run; no_release = no_release; no_install = no_install }
  where
    spare : (k : ℕ) → k < 2 → 8 ≤ (end.book k).spare
    spare k h = elim (two k h) [ inl e ↦ subst (λ k. 8 ≤ (end.book k).spare) (sym e) (omega arith) | inr e ↦ subst (λ k. 8 ≤ (end.book k).spare) (sym e) (omega arith) ]

pub worked_shift_lem : WorkedShift
worked_shift_lem = record { after = end; performed = performed; quiet = quiet }
