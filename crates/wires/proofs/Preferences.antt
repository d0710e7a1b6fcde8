-- An order of preference names what is left and nothing else; so its first batch may be chosen, and where it has none
-- nothing is left.
use Rattle.std.specs.Prelude.{◌≡◌, ℕ, Bool, true, false, not, ◌&&◌, eqb, List, [], ◌∷◌, ◌++◌, map, length, Some, None, ◌==◌, nat_lt, refl}
use Rattle.std.proofs.Common.{sym, ap, ◌∙◌, inl, inr, arith}
use Rattle.std.proofs.lemmas.List.{length-map}
use Rattle.std.proofs.lemmas.Bool.{cases_Bool, cases_eq, lt-ltb, ltb-true, and_parts, eq-eqb, eqb-true, not-true, and_from, and_left, and_right, or_left, or_right, or_parts, both_ways}
use Rattle.lists.specs.Words.{all, member, keep, rising}
use Rattle.wire.specs.Wire.{Wire}
use Rattle.wire.specs.Calls.{Chosen, all_there}
use Rattle.wires.specs.Orders.{head, left, rooms_right, Orders}
use Rattle.wires.specs.Parts.{posted_of}
use Rattle.wires.specs.declared.post.Post.{Post}
use Rattle.lists.proofs.Keeps.{member-keep}
use Rattle.wires.proofs.Words.{member-below}
use Rattle.wires.proofs.Rounds.{head-none, head_first}

-- a batch is left if it is posted and not in the list
pub left-member : (posts : List Post) (list : List ℕ) (b : ℕ) → member b (left (map posted_of posts) list) ≡ (nat_lt b (length posts) && not (member b list))
left-member posts list b =
    member-keep (λ b. not (member b list)) b (rising 0 (length (map posted_of posts)))
    ∙ ap (λ n. not (member b list) && member b (rising 0 n)) (length-map posts posted_of)
    ∙ ap (λ t. not (member b list) && t) (member-below b (length posts))
    ∙ turned (not (member b list)) (nat_lt b (length posts))
  where
    turned : (s t : Bool) → (s && t) ≡ (t && s)
    turned s t = grind arith

pub wish-found : (wish : ℕ) (xs : List ℕ) → member wish xs ≡ true → head (keep (eqb wish) xs ++ xs) ≡ Some wish
wish-found wish xs e = head_first (keep (eqb wish) xs) xs wish (first xs e)
  where
    first : (xs : List ℕ) → member wish xs ≡ true → head (keep (eqb wish) xs) ≡ Some wish
    first [] e = absurd (both_ways false refl e)
    first (x ∷ xs) e = elim (cases_Bool (wish == x)) [
      | inl t ↦ rw t (ap Some (sym (eqb-true wish x t)))
      | inr f ↦ rw f (first xs (rw f at e))
    ]

pub wish-missing : (wish : ℕ) (xs : List ℕ) → member wish xs ≡ false → head (keep (eqb wish) xs ++ xs) ≡ head xs
wish-missing wish xs e = ap (λ (ys : List ℕ). head (ys ++ xs)) (none xs e)
  where
    none : (xs : List ℕ) → member wish xs ≡ false → keep (eqb wish) xs ≡ []
    none [] e = refl
    none (x ∷ xs) e = let parts = or_parts (wish == x) (member wish xs) e in rw parts.0 (none xs parts.1)

-- what an order of preference gives
head-member : (xs : List ℕ) (b : ℕ) → head xs ≡ Some b → member b xs ≡ true
head-member [] b e = let z : ◌≡◌ {A = ℕ} 0 1 = cc in absurd (omega arith)
head-member (x ∷ xs) b e = let same : x ≡ b = cc in grind arith

module _ (w : Wire) (list order : List ℕ) (right : rooms_right w.posts ≡ true) (orders : Orders w.posts list order) where
  pub first-chosen : (b : ℕ) → head order ≡ Some b → Chosen w list b
  first-chosen b e =
      let there = sym (member-keep (λ b. not (member b list)) b (rising 0 (length w.posts))) ∙ sym (orders right b) ∙ head-member order b e in
      let parts = and_parts _ _ there in
      record { posted = ltb-true b (length w.posts) (sym (member-below b (length w.posts)) ∙ parts.1); new = not-true (member b list) parts.0 }

  pub none_left : head order ≡ None → all_there w list ≡ true
  none_left e = every (rising 0 (length w.posts)) there
    where
      there : (b : ℕ) → member b (rising 0 (length w.posts)) ≡ true → member b list ≡ true
      there b m =
          let gone = sym (ap (member b) (head-none order e)) ∙ orders right b ∙ member-keep (λ b. not (member b list)) b (rising 0 (length w.posts)) in
          both gone m
        where
          both : {s t : Bool} → false ≡ (not s && t) → t ≡ true → s ≡ true
          both {s} {t} g m = grind arith

      every : (xs : List ℕ) → ((b : ℕ) → member b xs ≡ true → member b list ≡ true) → all (λ b. member b list) xs ≡ true
      every [] h = refl
      every (x ∷ xs) h = and_from _ _ (h x (or_left _ _ (eq-eqb x x refl))) (every xs (λ b m. h b (or_right (b == x) _ m)))

-- where a batch may be chosen not all are there
pub chosen-left : (w : Wire) (list : List ℕ) (b : ℕ) → Chosen w list b → all_there w list ≡ false
chosen-left w list b chosen = missing (rising 0 (length w.posts)) (member-below b (length w.posts) ∙ lt-ltb b (length w.posts) chosen.posted)
  where
    missing : (xs : List ℕ) → member b xs ≡ true → all (λ b. member b list) xs ≡ false
    missing [] e = absurd (both_ways false refl e)
    missing (x ∷ xs) e =
        elim (cases_eq b x) [
          | inl same ↦ and_left (member x list) _ (rw same at chosen.new)
          | inr apart ↦ let rest : member b xs ≡ true = grind arith in and_right (member x list) _ (missing xs rest)
        ]
