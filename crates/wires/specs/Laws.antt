-- That a ledger and the policies keep the laws of their interfaces. Nothing is defined here: it stands in specs/ since an
-- impl's proof of a law may cite only what stands there. A ledger knows that it is sound; and every order of preference
-- names what is left and nothing else.
use Rattle.std.specs.Prelude.{◌≡◌, ℕ, zero, suc, ◌+◌, ◌-◌, ◌%◌, ◌<◌, Bool, true, false, ◌&&◌, ◌||◌, eqb, List, [], ◌∷◌, ◌++◌, map, Some, None, Option, ◌==◌, nat_lt, refl}
use Rattle.std.proofs.Common.{ap, ◌∙◌, inl, inr, arith}
use Rattle.std.proofs.Math.Logic.{∥∥₁_elim}
use Rattle.std.specs.List.{flat_map}
use Rattle.std.proofs.lemmas.Bool.{cases_eq, and_parts, eq-eqb, ltb-true, both_ways}
use denote.Struct.Props.{props}
use Rattle.lists.specs.Words.{member, keep, rising, Distinct}
use Rattle.lists.proofs.Members.{member-append, member-rising}
use Rattle.lists.proofs.Keeps.{member-keep}
use Rattle.wire.specs.Wire.{Posted}
use Rattle.wire.specs.Calls.{Sound}
use Rattle.wires.specs.Meaning.{meaning_of}
use Rattle.wires.specs.Orders.{left, left_of, left_round, poster, round, own_first, wish_first, rooms_right, Orders}
use Rattle.wires.specs.declared.ledger.Ledger.{Ledger}

distinct_prop : (xs : List ℕ) → IsProp (Distinct xs)
distinct_prop [] = hlevel props
distinct_prop (x ∷ xs) = let rest = distinct_prop xs in hlevel props

pub sound_of : (l : Ledger) → Sound (meaning_of l)
sound_of l = record {
  few = ∥∥₁_elim l.sound (hlevel props) (λ s. s.few);
  batches_right = ∥∥₁_elim l.sound (hlevel props) (λ s. s.batches_right);
  posts_rooms = ∥∥₁_elim l.sound (hlevel props) (λ s. s.posts_rooms);
  numbered_once = ∥∥₁_elim l.sound (distinct_prop _) (λ s. s.numbered_once);
  numbered_posted = ∥∥₁_elim l.sound (hlevel props) (λ s. s.numbered_posted);
  heard_once = λ room. ∥∥₁_elim l.sound (distinct_prop _) (λ s. s.heard_once room);
  heard_posted = ∥∥₁_elim l.sound (hlevel props) (λ s. s.heard_posted);
  announced_small = ∥∥₁_elim l.sound (hlevel props) (λ s. s.announced_small);
  taken_numbered = ∥∥₁_elim l.sound (hlevel props) (λ s. s.taken_numbered);
  received_announced = ∥∥₁_elim l.sound (hlevel props) (λ s. s.received_announced);
}

-- some of those left before all of those left
some_first : (p : ℕ → Bool) (xs : List ℕ) (b : ℕ) → member b (keep p xs ++ xs) ≡ member b xs
some_first p xs b = member-append b (keep p xs) xs ∙ ap (λ t. t || member b xs) (member-keep p b xs) ∙ absorbs (p b) (member b xs)
  where
    absorbs : (s t : Bool) → ((s && t) || t) ≡ t
    absorbs true true = refl
    absorbs true false = refl
    absorbs false t = refl

pub left_orders : (posts : List Posted) (list : List ℕ) → Orders posts list (left posts list)
left_orders posts list right b = refl

pub own_first_orders : (posts : List Posted) (list : List ℕ) (room : ℕ) → Orders posts list (own_first posts list room)
own_first_orders posts list room right b = some_first (λ b. eqb (poster posts b) room) (left posts list) b

pub wish_first_orders : (wish : Option ℕ) (posts : List Posted) (list : List ℕ) → Orders posts list (wish_first wish posts list)
wish_first_orders None posts list right b = refl
wish_first_orders (Some wish) posts list right b = some_first (eqb wish) (left posts list) b

-- going round
poster-small : (posts : List Posted) (b : ℕ) → rooms_right posts ≡ true → poster posts b < 8
poster-small [] b e = omega arith
poster-small (p ∷ ps) zero e = ltb-true p.room 8 (and_parts _ _ e).0
poster-small (p ∷ ps) (suc b) e = poster-small ps b (and_parts (nat_lt p.room 8) _ e).1

member-map : (f : ℕ → ℕ) (k : ℕ) (xs : List ℕ) → member k xs ≡ true → member (f k) (map f xs) ≡ true
member-map f k [] e = absurd (both_ways false refl e)
member-map f k (x ∷ xs) e =
    elim (cases_eq k x) [
      | inl same ↦ rw same (let t = eq-eqb (f x) (f x) refl in grind arith)
      | inr apart ↦ let rest : member k xs ≡ true = grind arith in let t = member-map f k xs rest in grind arith
    ]

every_room : (from room : ℕ) → room < 8 → member room (round from) ≡ true
unfolding round
every_room from room small =
    let k : ℕ = (room + (8 - from % 8)) % 8 in
    let there : (from + k) % 8 ≡ room = omega arith in
    rw there at (member-map (λ k. (from + k) % 8) k (rising 0 8) (below k (omega arith)))
  where
    below : (k : ℕ) → k < 8 → member k (rising 0 8) ≡ true
    below k h = let e = member-rising k 0 8 in grind arith

left-rooms : (posts : List Posted) (list rooms : List ℕ) (b : ℕ) → member b (flat_map (left_of posts list) rooms) ≡ (member (poster posts b) rooms && member b (left posts list))
left-rooms posts list [] b = refl
left-rooms posts list (r ∷ rs) b =
    member-append b (left_of posts list r) (flat_map (left_of posts list) rs)
    ∙ spread (member b (left_of posts list r)) (member b (flat_map (left_of posts list) rs)) (poster posts b == r) (member (poster posts b) rs) (member b (left posts list)) (member-keep (λ b. eqb (poster posts b) r) b (left posts list)) (left-rooms posts list rs b)
  where
    spread : (x y s t u : Bool) → x ≡ (s && u) → y ≡ (t && u) → (x || y) ≡ ((s || t) && u)
    spread x y s t u e g = grind arith

pub left_round_orders : (posts : List Posted) (list : List ℕ) (from : ℕ) → Orders posts list (left_round posts list from)
left_round_orders posts list from right b =
    left-rooms posts list (round from) b
    ∙ ap (λ t. t && member b (left posts list)) (every_room from (poster posts b) (poster-small posts b right))
