-- Every call has an answer of exactly one kind. Where no cause holds the wire has a batch to choose, a book may spare no
-- entry, and whether some batch could be run is told by going through those heard.
use Rattle.std.proofs.Common.{◌≡◌, ℕ, ◌+◌, ◌<◌, Bool, true, false, not, ◌&&◌, ◌||◌, ltb, leb, List, ◌++◌, length, is_some, Some, None, Option, sym, refl, ap, ◌∙◌, inl, inr, arith}
use Rattle.std.proofs.lemmas.Bool.{cases_Bool, not-true, both_ways}
use Rattle.lists.specs.Words.{member, any, rising}
use Rattle.lists.proofs.Members.{member-append, member-rising, some_of, some-not, none_of}
use Rattle.refusals.specs.declared.refusal.Refusal.{Refusal}
use Rattle.refusals.specs.declared.refusal.Refusal.TheVariants.{OutOfRange, NothingWaits, UnknownBatch}
use Rattle.stock.specs.Stock.{Spends}
use Rattle.wire.specs.Wire.{Wire}
use Rattle.wire.specs.Calls.{all_there, no_room, hear_cause, Chosen}
use Rattle.order.specs.Works.{Works}
use Rattle.agreement.specs.Rooms.{Room, heard_here, run_cause, Picks}
use Rattle.agreement.specs.Houses.{Given, House, works}
use Rattle.agreement.specs.Calls.{Call, post, number, hear, settle, pick, run, release, install, wish, amount, Answer, refused, done, cause, Answers, refuses, posts, numbers, hears, settles, runs, releases, installs, wishes, tells, picks}
use Rattle.agreement.specs.Answering.{kind_of, kind_taken, Sealed, Answered}
use Rattle.agreement.proofs.Puts.{clash}
use Rattle.agreement.proofs.Causes.{passed, passed_not, room_passed, some-none}

abbrev Reply : Given → House → Call → Type 0
Reply g h c = (a : Answer) × (h' : House) × Answers g h c a h'

-- by the call's cause
weigh : (g : Given) (h : House) (c : Call) → (cause g h c ≡ None → Reply g h c) → (o : Option Refusal) → cause g h c ≡ o → Reply g h c
weigh g h c take None e = take e
weigh g h c take (Some x) e = (refused x, h, refuses e)

-- a posted batch that is not in a list yet
choice : (v : Wire) (l : List ℕ) → all_there v l ≡ false → (b : ℕ) × Chosen v l b
choice v l f =
    let z = some-not (λ b. member b l) (rising 0 (length v.posts)) f in
    (z.0, record { posted = low z.0 (length v.posts) (sym (member-rising z.0 0 (length v.posts)) ∙ z.1); new = z.2 })
  where
    low : (x n : ℕ) → (leb 0 x && ltb x (0 + n)) ≡ true → x < n
    low x n h = grind arith

-- some batch that run would take, or none
picking : (w : Works) (k : ℕ) (r : Room) → (o : Option ℕ) × Picks w k r o
picking w k r = elim (cases_Bool (any takes heard)) [
  | inl t ↦ let z = some_of takes heard t in (Some z.0, none_of_it (run_cause w k r z.0) (not-true _ z.2))
  | inr f ↦ (None, λ b e. both_ways (takes b) (none_of takes b heard f (in_heard b e)) (ap (λ o. not (is_some o)) e))
]
  where
    takes : ℕ → Bool
    takes b = not (is_some (run_cause w k r b))

    heard : List ℕ
    heard = r.waiting ++ (r.settled ++ r.installed)

    none_of_it : (o : Option Refusal) → is_some o ≡ false → o ≡ None
    none_of_it None e = refl
    none_of_it (Some x) e = clash true refl e

    in_heard : (b : ℕ) → run_cause w k r b ≡ None → member b heard ≡ true
    in_heard b e = member-append b r.waiting (r.settled ++ r.installed) ∙ ap (λ x. member b r.waiting || x) (member-append b r.settled r.installed) ∙ (passed_not (heard_here r b) UnknownBatch _ e).0

spends_none : (writes n : ℕ) → Spends writes n n
spends_none writes n = record { at_most = omega arith; no_more = omega arith }

reply : (g : Given) (h : House) (c : Call) → Sealed c → Reply g h c
reply g h (post room b) sealed = weigh g h (post room b) (λ e. (_, _, posts e (sealed room b refl))) (cause g h (post room b)) refl
reply g h number sealed = weigh g h number (λ e. let z = choice h.wire h.wire.definitive (passed (all_there h.wire h.wire.definitive) NothingWaits None e).0 in (_, _, numbers e z.1)) (cause g h number) refl
reply g h (hear k) sealed = weigh g h (hear k) (λ e.
    let z = choice h.wire (h.wire.tentative k) (passed (all_there h.wire (h.wire.tentative k)) NothingWaits None (passed (no_room k) OutOfRange _ (room_passed g.plan k (hear_cause h.wire k) e).1).1).0 in
    (_, _, hears e z.1)) (cause g h (hear k)) refl
reply g h (settle k) sealed = weigh g h (settle k) (λ e. (_, _, settles e)) (cause g h (settle k)) refl
reply g h (pick k) sealed = weigh g h (pick k) (λ e. let z = picking (works g h) k (h.room k) in (_, _, picks e z.1)) (cause g h (pick k)) refl
reply g h (run k b) sealed = weigh g h (run k b) (λ e. (_, _, runs e)) (cause g h (run k b)) refl
reply g h (release k b) sealed = weigh g h (release k b) (λ e. (_, _, releases e (spends_none _ (h.book k).spare))) (cause g h (release k b)) refl
reply g h (install k m) sealed = weigh g h (install k m) (λ e. (_, _, installs e (spends_none _ (h.book k).spare))) (cause g h (install k m)) refl
reply g h (wish b) sealed = (done, h, wishes)
reply g h (amount k x) sealed = weigh g h (amount k x) (λ e. (_, _, tells e)) (cause g h (amount k x)) refl

-- a cause and none cannot be
never : {X : Type 0} (o : Option Refusal) (e : Refusal) → o ≡ None → o ≡ Some e → X
never o e n s = some-none e (sym s ∙ n)

refusal : (g : Given) {h h' : House} {c : Call} {a : Answer} → Answers g h c a h' → (e : Refusal) → cause g h c ≡ Some e → (a ≡ refused e) × (h' ≡ h)
refusal g (refuses {h = h} {c = c} {e = x} r) e s = (ap refused (same x e (sym r ∙ s)), refl)
  where
    same : (x y : Refusal) → Some x ≡ Some y → x ≡ y
    same x y p = cc
refusal g (posts {h = h} {room = room} {b = b} n _) e s = never (cause g h (post room b)) e n s
refusal g (numbers {h = h} n _) e s = never (cause g h number) e n s
refusal g (hears {h = h} {k = k} n _) e s = never (cause g h (hear k)) e n s
refusal g (settles {h = h} {k = k} n) e s = never (cause g h (settle k)) e n s
refusal g (runs {h = h} {k = k} {b = b} n) e s = never (cause g h (run k b)) e n s
refusal g (releases {h = h} {k = k} {b = b} n _) e s = never (cause g h (release k b)) e n s
refusal g (installs {h = h} {k = k} {m = m} n _) e s = never (cause g h (install k m)) e n s
refusal g (wishes {h = h} {b = b}) e s = never (cause g h (wish b)) e refl s
refusal g (tells {h = h} {k = k} {x = x} n) e s = never (cause g h (amount k x)) e n s
refusal g (picks {h = h} {k = k} n _) e s = never (cause g h (pick k)) e n s

right-kind : (g : Given) {h h' : House} {c : Call} {a : Answer} → Answers g h c a h' → cause g h c ≡ None → kind_of a ≡ kind_taken c
right-kind g (refuses {h = h} {c = c} {e = e} r) n = never (cause g h c) e n r
right-kind g (posts _ _) n = refl
right-kind g (numbers _ _) n = refl
right-kind g (hears _ _) n = refl
right-kind g (settles _) n = refl
right-kind g (runs _) n = refl
right-kind g (releases _ _) n = refl
right-kind g (installs _ _) n = refl
right-kind g wishes n = refl
right-kind g (tells _) n = refl
right-kind g (picks _ _) n = refl

pub answered : (g : Given) (h : House) (c : Call) → Answered g h c
answered g h c = record { some = reply g h c; refusal = λ a h' e d s. refusal g d e s; taken = λ a h' d n. right-kind g d n }
