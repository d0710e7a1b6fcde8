-- A room that has heard 256 batches has heard all that are posted: its three lists hold different batches, all posted and
-- heard, so one more that is not heard would make 257 different ones below 256.
use Rattle.std.proofs.Common.{◌≡◌, ℕ, ◌+◌, ◌<◌, Bool, true, false, not, ◌&&◌, ◌||◌, eqb, ltb, leb, List, ◌∷◌, ◌++◌, length, take, sym, refl, ap, ◌∙◌, inl, inr, arith, length-append}
use Rattle.std.proofs.lemmas.Bool.{cases_Bool, leb-true, and_parts, ltb-true, not-true}
use Rattle.lists.specs.Words.{member, rising, Distinct}
use Rattle.lists.proofs.Distincts.{distinct_keep, distinct_append, distinct_short}
use Rattle.lists.proofs.Keeps.{member-keep}
use Rattle.lists.proofs.Members.{member-append, member-rising, some-not}
use Rattle.wire.specs.Calls.{all_there}
use Rattle.order.proofs.Walks.{order-once}
use Rattle.agreement.specs.Houses.{Given, House, works}
use Rattle.agreement.specs.Calls.{Call, Answer, Performed}
use Rattle.agreement.specs.Promises.{own_heard, settling_order, Promise}
use Rattle.agreement.proofs.Kept.{promise-kept}
use Rattle.rooms.specs.Calls.{full}

module _ (g : Given) (calls : List (Call × Answer)) (h : House) (performed : Performed g calls h) (k : ℕ) where
  kept : Promise g calls h
  kept = promise-kept g calls h performed

  abbrev waiting : List ℕ
  waiting = (h.room k).waiting

  abbrev settled : List ℕ
  settled = (h.room k).settled

  abbrev installed : List ℕ
  installed = (h.room k).installed

  abbrev heard : List ℕ
  heard = h.wire.tentative k

  own_once : (m : ℕ) → Distinct (own_heard h.wire.tentative k m)
  own_once m = elim (cases_Bool (eqb m k)) [ inl t ↦ rw t (kept.parts.wire.heard_once m) | inr f ↦ rw f tt ]

  -- who waits is neither settled nor installed
  waiting_apart : (a : ℕ) → member a waiting ≡ true → member a (settled ++ installed) ≡ false
  waiting_apart a m =
      let y = ap (member a) (kept.rooms k).waiting ∙ member-keep (λ b. not (member b installed) && not (member b (settling_order g h k))) a heard in
      let z = ap (member a) (kept.rooms k).settled ∙ member-keep (λ b. not (member b installed)) a (settling_order g h k) in
      member-append a settled installed ∙ apart (member a waiting) (member a settled) (member a installed) (member a (settling_order g h k)) (member a heard) m y z
    where
      apart : (w s i o t : Bool) → w ≡ true → w ≡ ((not i && not o) && t) → s ≡ (not i && o) → (s || i) ≡ false
      apart w s i o t e y z = grind arith

  settled_apart : (a : ℕ) → member a settled ≡ true → member a installed ≡ false
  settled_apart a m =
      let z = ap (member a) (kept.rooms k).settled ∙ member-keep (λ b. not (member b installed)) a (settling_order g h k) in
      not-true (member a installed) (and_parts _ _ (sym z ∙ m)).0

  -- all that the room has heard, each once
  abbrev whole : List ℕ
  whole = waiting ++ (settled ++ installed)

  whole-once : Distinct whole
  whole-once = distinct_append waiting (settled ++ installed)
      (rw (kept.rooms k).waiting (distinct_keep _ heard (kept.parts.wire.heard_once k)))
      (distinct_append settled installed (rw (kept.rooms k).settled (distinct_keep _ (settling_order g h k) (order-once (works g h) (own_heard h.wire.tentative k) own_once (take (h.wire.taken k) h.wire.definitive)))) (kept.installed.once k) settled_apart)
      waiting_apart

  whole-heard : (a : ℕ) → member a whole ≡ member a heard
  whole-heard a = member-append a waiting (settled ++ installed) ∙ ap (λ t. member a waiting || t) (member-append a settled installed) ∙ (kept.rooms k).heard a

  -- one that is not heard would make one more
  one_more_low : (b : ℕ) → b < length h.wire.posts → member b heard ≡ false → length whole < 256
  one_more_low b low new = distinct_short 256 (b ∷ whole) (whole-heard b ∙ new, whole-once) (λ a m. below a (and_low a m))
    where
      and_low : (a : ℕ) → member a (b ∷ whole) ≡ true → (eqb a b || member a heard) ≡ true
      and_low a m = ap (λ t. eqb a b || t) (sym (whole-heard a)) ∙ m

      below : (a : ℕ) → (eqb a b || member a heard) ≡ true → a < 256
      below a m = elim (cases_Bool (member a heard)) [
        | inl t ↦ let z = kept.parts.wire.heard_posted k a t in let few = kept.bounded.posts in omega (arith, z, few)
        | inr f ↦ let few = kept.bounded.posts in let e : a ≡ b = equal (eqb a b) (member a heard) a b refl f m in omega (arith, few, e, low)
      ]
        where
          equal : (t m : Bool) (a b : ℕ) → t ≡ eqb a b → m ≡ false → (t || m) ≡ true → a ≡ b
          equal t m a b e f o = grind arith

  pub all-heard : full (h.room k) ≡ true → all_there h.wire heard ≡ true
  all-heard filled = elim (cases_Bool (all_there h.wire heard)) [
    | inl t ↦ t
    | inr f ↦
        let x = some-not (λ b. member b heard) (rising 0 (length h.wire.posts)) f in
        let low : x.0 < 0 + length h.wire.posts = ltb-true x.0 (0 + length h.wire.posts) (and_parts (leb 0 x.0) (ltb x.0 (0 + length h.wire.posts)) (sym (member-rising x.0 0 (length h.wire.posts)) ∙ x.1)).1 in
        let few : length whole < 256 = one_more_low x.0 (omega (arith, low)) x.2 in
        let many = leb-true 256 _ filled in
        let a = length-append waiting (settled ++ installed) in let b = length-append settled installed in
        absurd (omega (arith, few, many, a, b))
  ]
