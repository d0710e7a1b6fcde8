-- What it says of a call that no cause holds against it: none of its tests holds, from the first on.
use Rattle.std.proofs.Common.{◌≡◌, ℕ, zero, suc, ◌<◌, Bool, true, false, cond, not, ◌||◌, eqb, ltb, leb, List, [], ◌∷◌, ◌++◌, length, take, is_ok, Some, None, Ok, Err, Option, refl, ap, ◌∙◌, inl, inr, arith}
use Rattle.std.specs.List.{find}
use Rattle.std.proofs.lemmas.Option.{same_Some}
use Rattle.std.proofs.lemmas.Bool.{cases_Bool, both_ways, eqb-true, not-false, and_parts, or_cases, or_from, ltb-true, leb-true, le-ltb}
use Rattle.lists.specs.Words.{member, any, all}
use Rattle.lists.proofs.Members.{all_at, all_get_d, member-append}
use Rattle.refusals.specs.Causes.{answer}
use Rattle.refusals.specs.declared.refusal.Refusal.{Refusal}
use Rattle.sets.specs.Sets.{size, sized}
use Rattle.stock.specs.Stock.{Stock, over_limit}
use Rattle.stock.specs.BySet.{write_set_cause}
use Rattle.wire.specs.Wire.{Wire}
use Rattle.wire.specs.Calls.{no_room, announced_before, amounts_small, announcement_waits, no_announcement, next_announcement, announce_cause, Sound}
use Rattle.wire.specs.declared.announcement.Announcement.{Announcement}
use Rattle.order.specs.Works.{Works}
use Rattle.agreement.specs.Rooms.{Room, heard_here, is_marked, run_cause, too_few, release_cause, turn_come, install_cause, Picks}
use Rattle.rooms.specs.declared.room.Room.{Room as CodeRoom}
use Rattle.rooms.specs.Calls.{or_else}
use Rattle.rooms.specs.Records.{known}
use Rattle.rooms.specs.Lists.{numbers_of}
use Rattle.rooms.specs.Views.{room_of}

-- no cause, where the first is checked before the rest
pub none-parts : (test : Bool) (e : Refusal) (rest : Option Refusal) → cond test (Some e) rest ≡ None → (test ≡ false) × (rest ≡ None)
none-parts true e rest h = let z : ◌≡◌ {A = ℕ} 0 1 = cc in absurd (omega arith)
none-parts false e rest h = (refl, h)

-- what the room has heard it has a record for
pub heard-known : (r : CodeRoom) (b : ℕ) → heard_here (room_of r) b ≡ true → b < 256
heard-known r b h = ltb-true b 256 (elim (or_cases (member b (numbers_of r.waiting)) _ h) [
  | inl t ↦ all_at known (numbers_of r.waiting) r.waiting.known b t
  | inr t ↦ elim (or_cases (member b (numbers_of r.settled)) _ t) [
    | inl u ↦ all_at known (numbers_of r.settled) r.settled.known b u
    | inr u ↦ all_at known (numbers_of r.installed) r.installed.known b u
  ]
])

-- and so for what stands in a line
pub stood_known : (r : CodeRoom) (b : ℕ) → (member b (numbers_of r.waiting) || member b (numbers_of r.settled)) ≡ true → known b ≡ true
stood_known r b h = elim (or_cases (member b (numbers_of r.waiting)) (member b (numbers_of r.settled)) h) [
  | inl t ↦ all_at known (numbers_of r.waiting) r.waiting.known b t
  | inr t ↦ all_at known (numbers_of r.settled) r.settled.known b t
]

pub run-heard : (w : Works) (k : ℕ) (r : Room) (b : ℕ) → run_cause w k r b ≡ None → heard_here r b ≡ true
run-heard w k r b h = not-false (heard_here r b) (none-parts _ _ _ h).0

-- whether a batch may be run, and what a search of the lines for one finds
abbrev pub may_run : Works → ℕ → Room → ℕ → Bool
may_run w k r b = is_ok (answer {A = Unit {0}} (run_cause w k r b) tt)

found_passes : (p : ℕ → Bool) (l : List ℕ) (x : ℕ) → Some x ≡ find p l → p x ≡ true
found_passes p [] x e = absurd (cc)
found_passes p (y ∷ l) x e = elim (cases_Bool (p y)) [ inl t ↦ let z : Some x ≡ Some y = rw t at e in rw (same_Some x y z) t | inr f ↦ found_passes p l x (rw f at e) ]

none_passes : (p : ℕ → Bool) (l : List ℕ) → None ≡ find p l → (x : ℕ) → member x l ≡ true → p x ≡ false
none_passes p [] e x m = absurd (both_ways false refl m)
none_passes p (y ∷ l) e x m = elim (cases_Bool (p y)) [
  | inl t ↦ let z : None ≡ Some y = rw t at e in absurd (cc)
  | inr f ↦ elim (or_cases (eqb x y) (member x l) m) [ inl h ↦ rw (eqb-true x y h) f | inr h ↦ none_passes p l (rw f at e) x h ]
]

pub picked : (w : Works) (k : ℕ) (r : Room) (found : Option ℕ) → found ≡ find (may_run w k r) (r.settled ++ r.waiting) → Picks w k r found
picked w k r None is = λ b e.
    let heard = none-parts (not (heard_here r b)) _ _ e in
    let installed = (none-parts (member b r.installed) _ _ (none-parts (not (eqb (w.master b) k)) _ _ heard.1).1).0 in
    let there : member b (r.settled ++ r.waiting) ≡ true = member-append b r.settled r.waiting ∙ lined (member b r.waiting) (member b r.settled) (member b r.installed) (not-false (heard_here r b) heard.0) installed in
    both_ways (may_run w k r b) (none_passes (may_run w k r) (r.settled ++ r.waiting) is b there) (ap (λ (o : Option Refusal). is_ok (answer {A = Unit {0}} o tt)) e)
  where
    lined : (x y z : Bool) → (x || (y || z)) ≡ true → z ≡ false → (y || x) ≡ true
    lined x y z h e = grind arith
picked w k r (Some b) is = may (run_cause w k r b) (found_passes (may_run w k r) (r.settled ++ r.waiting) b is)
  where
    may : (o : Option Refusal) → is_ok (answer {A = Unit {0}} o tt) ≡ true → o ≡ None
    may None h = refl
    may (Some e) h = absurd (both_ways false refl h)

-- what a call answers tells its cause
module _ {A : Type 0} (cause : Option Refusal) (due : A) where
  pub err_cause : (e : Refusal) → Err e ≡ answer cause due → cause ≡ Some e
  err_cause = go cause
    where
      go : (o : Option Refusal) (e : Refusal) → Err e ≡ answer o due → o ≡ Some e
      go None e h = let z : ◌≡◌ {A = ℕ} 0 1 = cc in absurd (omega arith)
      go (Some x) e h = cc

  pub ok_cause : (a : A) → Ok a ≡ answer cause due → (cause ≡ None) × (a ≡ due)
  ok_cause = go cause
    where
      go : (o : Option Refusal) (a : A) → Ok a ≡ answer o due → (o ≡ None) × (a ≡ due)
      go None a h = (refl, cc)
      go (Some x) a h = let z : ◌≡◌ {A = ℕ} 0 1 = cc in absurd (omega arith)

-- one check after the other
pub or_else-both : (first next : Option Refusal) → first ≡ None → next ≡ None → or_else first next ≡ None
or_else-both first next e h = rw e h

pub or_else-next : (first next : Option Refusal) (x : Refusal) → first ≡ None → next ≡ Some x → or_else first next ≡ Some x
or_else-next first next x e h = rw e h

pub or_else-first : (first next : Option Refusal) (x : Refusal) → first ≡ Some x → or_else first next ≡ Some x
or_else-first first next x e = rw e

-- a batch that is released is settled, does not wait, and has entries enough
pub record Releasable (w : Works) (r : Room) (s : Stock) (b : ℕ) : Type 0 where
  pub settled : member b r.settled ≡ true
  pub waiting : member b r.waiting ≡ false
  pub enough : too_few w s b ≡ false

pub releasable : (w : Works) (k : ℕ) (r : Room) (s : Stock) (b : ℕ) → release_cause w k r s b ≡ None → Releasable w r s b
releasable w k r s b h =
    let heard = none-parts (not (heard_here r b)) _ _ h in
    let master = none-parts (not (eqb (w.master b) k)) _ _ heard.1 in
    let installed = none-parts (member b r.installed) _ _ master.1 in
    let marked = none-parts (not (is_marked r b)) _ _ installed.1 in
    let waiting = none-parts (member b r.waiting) _ _ marked.1 in
    let few = none-parts (too_few w s b) _ _ waiting.1 in
    record { settled = middle (member b r.waiting) (member b r.settled) (member b r.installed) (not-false (heard_here r b) heard.0) waiting.0 installed.0; waiting = waiting.0; enough = few.0 }
  where
    middle : (x y z : Bool) → (x || (y || z)) ≡ true → x ≡ false → z ≡ false → y ≡ true
    middle x y z h e f = grind arith

-- an announcement that is installed waits, and its batch has entries enough
pub record Installable (w : Works) (wire : Wire) (k : ℕ) (r : Room) (s : Stock) (sender : ℕ) : Type 0 where
  pub turn : turn_come w r sender (next_announcement wire k sender) ≡ true
  pub enough : too_few w s (next_announcement wire k sender).batch ≡ false

pub installable : (rooms : ℕ) (w : Works) (wire : Wire) (k : ℕ) (r : Room) (s : Stock) (sender : ℕ) → install_cause rooms w wire k r s sender ≡ None → Installable w wire k r s sender
installable rooms w wire k r s sender h =
    let range = none-parts (leb rooms sender || eqb sender k) _ _ h in
    let waits = none-parts (not (announcement_waits wire k sender)) _ _ range.1 in
    let turn = none-parts (not (turn_come w r sender (next_announcement wire k sender))) _ _ waits.1 in
    let few = none-parts (too_few w s (next_announcement wire k sender).batch) _ _ turn.1 in
    record { turn = not-false (turn_come w r sender (next_announcement wire k sender)) turn.0; enough = few.0 }

-- what is announced is within the limit
none_over : (n : ℕ) (values : List ℕ) → all (λ amount. leb amount 1000000000) values ≡ true → any over_limit (take n values) ≡ false
none_over zero values h = refl
none_over (suc n) [] h = refl
none_over (suc n) (v ∷ values) h =
    let z = and_parts (leb v 1000000000) (all (λ amount. leb amount 1000000000) values) h in
    or_from (over_limit v) (any over_limit (take n values)) (le-ltb 1000000000 v (leb-true v 1000000000 z.0)) (none_over n values z.1)

-- so a book with enough spare entries takes it
pub write_taken_lem : (s : Stock) (set : ℕ) (values : List ℕ) → sized set ≡ true → ltb s.spare (size set) ≡ false → all (λ amount. leb amount 1000000000) values ≡ true → write_set_cause s set values ≡ None
write_taken_lem s set values size-right enough small = rw (size-right, enough, none_over (size set) values small)

pub announce-small : (w : Wire) (k : ℕ) (a : Announcement) → announce_cause w k a ≡ None → amounts_small a ≡ true
announce-small w k a h =
    let room = none-parts (no_room k) _ _ h in
    let known-batch = none-parts (leb (length w.posts) a.batch) _ _ room.1 in
    let new = none-parts (announced_before w a.batch) _ _ known-batch.1 in
    not-false (amounts_small a) (none-parts (not (amounts_small a)) _ _ new.1).0

pub next_small : (w : Wire) → Sound w → (k sender : ℕ) → amounts_small (next_announcement w k sender) ≡ true
next_small w s k sender = all_get_d amounts_small (w.announced sender) no_announcement (s.announced_small sender) refl (w.received k sender)
