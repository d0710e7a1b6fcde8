-- The first batch that is left: what a search upwards finds is the first of those that pass its test.
use Rattle.std.specs.Prelude.{◌≡◌, ℕ, zero, suc, ◌+◌, ◌<◌, Bool, not, ◌&&◌, cond, List, [], ◌∷◌, map, length, get_or, Some, None, Option, ◌==◌, nat_lt, slice_index_or, refl}
use Rattle.std.specs.List.{find, range_with_len, position_or_len, enumerate_from}
use Rattle.std.proofs.Common.{sym, ap, ◌∙◌, arith, add-one, add-zero, zero-add}
use Rattle.std.proofs.lemmas.Bool.{cases_Bool, lt-ltb}
use Rattle.std.proofs.lemmas.List.{length-map}
use Rattle.std.proofs.lemmas.Bool.Decides.{nat_tests}
use Rattle.std.proofs.lemmas.List.FromFn.{length-enumerate_from}
use Rattle.std.proofs.Common.{inl, inr}
use Rattle.lists.specs.Words.{keep, member, rising}
use Rattle.lists.proofs.Keeps.{keep-keep}
use Rattle.wires.specs.Orders.{head, left, left_of, poster}
use Rattle.wires.specs.Parts.{posted_of}
use Rattle.wires.specs.declared.post.Post.{Post}

pub range-rising : (a n : ℕ) → range_with_len a n ≡ rising a n
range-rising a zero = refl
range-rising a (suc n) = ap (λ xs. a ∷ xs) (range-rising (a + 1) n ∙ ap (λ b. rising b n) (add-one a))

find-head : (test : ℕ → Bool) (xs : List ℕ) → find test xs ≡ head (keep test xs)
find-head test [] = refl
find-head test (x ∷ xs) = elim (cases_Bool (test x)) [ inl t ↦ rw t refl | inr f ↦ rw f (find-head test xs) ]

-- the room of a post, and of the one that was read
pub poster-at : (posts : List Post) (b : ℕ) (d : Post) → b < length posts → poster (map posted_of posts) b ≡ (get_or posts b d).room.number
poster-at [] b d h = absurd (omega arith)
poster-at (q ∷ qs) zero d h = refl
poster-at (q ∷ qs) (suc b) d h = poster-at qs b d (omega arith)

pub poster-read : (posts : List Post) (b : ℕ) (p : Post) → b < length posts → p ≡ slice_index_or posts b p → poster (map posted_of posts) b ≡ p.room.number
poster-read posts b p h e = poster-at posts b p h ∙ ap (λ (x : Post). x.room.number) (sym e)

-- a search along values and their places, from a on, where the test of a value at its place is one of the place
position-head : (test : ℕ × Post → Bool) (at : ℕ → Bool) (a : ℕ) (ps : List Post) → ((k : ℕ) (d : Post) → k < length ps → test (a + k, get_or ps k d) ≡ at (a + k))
    → (n : ℕ) → n ≡ position_or_len test (enumerate_from a ps) → cond (nat_lt n (length ps)) (Some (a + n)) None ≡ head (keep at (rising a (length ps)))
position-head test at a [] same n e = rw e refl
position-head test at a (p ∷ ps) same n e =
    let here : test (a, p) ≡ at a = ap (λ k. test (k, p)) (sym (add-zero a)) ∙ same 0 p (omega arith) ∙ ap at (add-zero a) in
    elim (cases_Bool (at a)) [
      | inl t ↦
          let none : n ≡ 0 = e ∙ rw (here ∙ t) refl in
          rw (lt-ltb n (suc (length ps)) (omega arith), t) (ap Some (let z : a + n ≡ a = omega arith in z))
      | inr f ↦
          let m = position_or_len test (enumerate_from (a + 1) ps) in
          let more : n ≡ 1 + m = e ∙ rw (here ∙ f) refl in
          let later : (k : ℕ) (d : Post) → k < length ps → test (a + 1 + k, get_or ps k d) ≡ at (a + 1 + k) = λ k d h. let z : a + suc k ≡ a + 1 + k = omega arith in rw z at (same (suc k) d (omega arith)) in
          let rest = position-head test at (a + 1) ps later m refl in
          let past : nat_lt n (suc (length ps)) ≡ nat_lt m (length ps) = grind (arith, nat_tests) in
          let sum : a + n ≡ a + 1 + m = omega arith in
          rw (past, sum, f) (rest ∙ ap (λ (b : ℕ). head (keep at (rising b (length ps)))) (add-one a))
    ]

-- a room's post that the list lacks
abbrev pub of_room : List ℕ → ℕ → ℕ × Post → Bool
of_room list room p = p.1.room.number == room && not (member p.0 list)

module _ (posts : List Post) (list : List ℕ) where
  pub left-first : find (λ b. not (member b list)) (range_with_len 0 (length posts)) ≡ head (left (map posted_of posts) list)
  left-first =
      find-head (λ b. not (member b list)) (range_with_len 0 (length posts))
      ∙ ap (λ xs. head (keep (λ b. not (member b list)) xs)) (range-rising 0 (length posts) ∙ ap (rising 0) (sym (length-map posts posted_of)))

  pub left_of-first : (room : ℕ) → (r : Option ℕ) → r ≡ cond (nat_lt (position_or_len (of_room list room) (enumerate_from 0 posts)) (length (enumerate_from 0 posts))) (Some (position_or_len (of_room list room) (enumerate_from 0 posts))) None
      → r ≡ head (left_of (map posted_of posts) list room)
  left_of-first room r e =
      let n = position_or_len (of_room list room) (enumerate_from 0 posts) in
      let at : ℕ → Bool = λ b. poster (map posted_of posts) b == room && not (member b list) in
      let same : (k : ℕ) (d : Post) → k < length posts → of_room list room (0 + k, get_or posts k d) ≡ at (0 + k) = λ k d h. rw (zero-add k) (ap (λ r. r == room && not (member k list)) (sym (poster-at posts k d h))) in
      e
      ∙ rw (length-enumerate_from 0 posts, zero-add n) refl
      ∙ position-head (of_room list room) at 0 posts same n refl
      ∙ ap (λ xs. head (keep at xs)) (ap (rising 0) (sym (length-map posts posted_of)))
      ∙ ap head (sym (keep-keep (λ b. poster (map posted_of posts) b == room) (λ b. not (member b list)) (rising 0 (length (map posted_of posts)))))
