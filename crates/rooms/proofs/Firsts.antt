-- Who is first in lines, by one pass: a batch leads the line of each base of a set exactly where nothing before it in the
-- lists has such a base and it has them all. By induction over the lists, which are one after the other.
use Rattle.std.proofs.Common.{◌≡◌, ℕ, Bool, true, false, not, ◌&&◌, ◌||◌, eqb, leb, ◌⊎◌, List, [], ◌∷◌, ◌++◌, length, Some, Option, sym, refl, ap, ◌∙◌, inl, inr, arith}
use Rattle.std.specs.List.{find}
use Rattle.std.specs.Option.{option_eq}
use Rattle.std.proofs.lemmas.Bool.{cases_Bool, both_ways, eqb-true, and_right}
use Rattle.lists.specs.Words.{member, all, keep}
use Rattle.lists.proofs.Members.{member-head, member-tail, all_at}
use Rattle.lists.proofs.Keeps.{member-keep}
use Rattle.sets.specs.Sets.{has, bases, sized, within, shares}
use Rattle.sets.proofs.Bases.{member-bases, base_below}
use Rattle.sets.proofs.Members.{shares_base_lem, shared_base}
use Rattle.order.specs.Works.{Works, set_of}
use Rattle.agreement.specs.Rooms.{Room, leads, first_in_lines, first_before}

all_same : (f g : ℕ → Bool) (l : List ℕ) → ((x : ℕ) → member x l ≡ true → f x ≡ g x) → all f l ≡ all g l
all_same f g [] h = refl
all_same f g (y ∷ ys) h = let ih = all_same f g ys (λ x m. h x (member-tail x y ys m)) in let e = h y (member-head y ys) in grind arith

all_false : (f : ℕ → Bool) (l : List ℕ) (x : ℕ) → member x l ≡ true → f x ≡ false → all f l ≡ false
all_false f l x m e = elim (cases_Bool (all f l)) [ inr n ↦ n | inl t ↦ absurd (both_ways (f x) e (all_at f l t x m)) ]

some_base : (bs : List ℕ) → (leb 1 (length bs) && leb (length bs) 8) ≡ true → (x : ℕ) × (member x bs ≡ true)
some_base [] h = absurd (both_ways false refl h)
some_base (x ∷ bs) h = (x, member-head x bs)

has_low : (set other x : ℕ) → member x (bases set) ≡ true → has other x ≡ member x (bases other)
has_low set other x h = let m = member-bases other x in let b = base_below set x h in grind arith

leads-member : (q : ℕ) (l : List ℕ) → leads q l ≡ true → member q l ≡ true
leads-member q [] h = h
leads-member q (c ∷ cs) h = grind arith

keep_yes : {X : Type 0} (p : X → Bool) (x : X) (l : List X) → p x ≡ true → keep p (x ∷ l) ≡ x ∷ keep p l
keep_yes p x l e = rw e

keep_no : {X : Type 0} (p : X → Bool) (x : X) (l : List X) → p x ≡ false → keep p (x ∷ l) ≡ keep p l
keep_no p x l e = rw e

module _ (w : Works) (b q : ℕ) where
  -- those that are not left out
  abbrev stays : ℕ → Bool
  stays c = eqb c q || not (eqb c b)

  -- those of base x
  abbrev of_base : ℕ → ℕ → Bool
  of_base x c = member x (bases (set_of w c))

  -- the line of base x, with the batch left out
  abbrev left : ℕ → List ℕ → List ℕ
  left x l = keep stays (keep (of_base x) l)

  skip : (x c : ℕ) (l : List ℕ) → (of_base x c ≡ false) ⊎ (stays c ≡ false) → left x (c ∷ l) ≡ left x l
  skip x c l (inl e) = ap (keep stays) (keep_no (of_base x) c l e)
  skip x c l (inr e) = elim (cases_Bool (of_base x c)) [
    | inl t ↦ ap (keep stays) (keep_yes (of_base x) c l t) ∙ keep_no stays c (keep (of_base x) l) e
    | inr f ↦ ap (keep stays) (keep_no (of_base x) c l f)
  ]

  head : (x c : ℕ) (l : List ℕ) → of_base x c ≡ true → stays c ≡ true → left x (c ∷ l) ≡ c ∷ left x l
  head x c l e f = ap (keep stays) (keep_yes (of_base x) c l e) ∙ keep_yes stays c (keep (of_base x) l) f

  -- a batch that lacks a base does not lead its line
  lacks : (x : ℕ) (l : List ℕ) → of_base x q ≡ false → leads q (left x l) ≡ false
  lacks x l e = elim (cases_Bool (leads q (left x l))) [
    | inr n ↦ n
    | inl t ↦ absurd (both_ways (member q (left x l)) (member-keep stays q (keep (of_base x) l) ∙ rw (member-keep (of_base x) q l, e) (and_right (stays q) false refl)) (leads-member q (left x l) t))
  ]

  -- first in the line of each base
  abbrev pub all_led : List ℕ → Bool
  all_led l = all (λ x. leads q (left x l)) (bases (set_of w b))

  led_here : (c : ℕ) (l : List ℕ) → eqb c q ≡ true → all_led (c ∷ l) ≡ within (set_of w b) (set_of w q)
  led_here c l e = all_same (λ x. leads q (left x (c ∷ l))) (has (set_of w q)) (bases (set_of w b)) (λ x m. elim (cases_Bool (of_base x q)) [
    | inl t ↦ ap (leads q) (head x c l (rw (eqb-true c q e) t) (rw e)) ∙ e ∙ sym (has_low (set_of w b) (set_of w q) x m ∙ t)
    | inr f ↦ lacks x (c ∷ l) f ∙ sym (has_low (set_of w b) (set_of w q) x m ∙ f)
  ])

  led_blocked : (c : ℕ) (l : List ℕ) → eqb c q ≡ false → eqb c b ≡ false → shares (set_of w c) (set_of w b) ≡ true → all_led (c ∷ l) ≡ false
  led_blocked c l e n s =
      let z = shared_base (set_of w c) (set_of w b) s in
      all_false (λ x. leads q (left x (c ∷ l))) (bases (set_of w b)) z.0 z.2 (ap (leads q) (head z.0 c l z.1 (rw (e, n))) ∙ e)

  led_on : (c : ℕ) (l : List ℕ) → ((x : ℕ) → member x (bases (set_of w b)) ≡ true → (of_base x c ≡ false) ⊎ (stays c ≡ false)) → all_led (c ∷ l) ≡ all_led l
  led_on c l h = all_same (λ x. leads q (left x (c ∷ l))) (λ x. leads q (left x l)) (bases (set_of w b)) (λ x m. ap (leads q) (skip x c l (h x m)))

  -- the leader, or what stands before it: another batch that has such a base
  abbrev pub decides : ℕ → Bool
  decides c = eqb c q || (not (eqb c b) && shares (set_of w c) (set_of w b))

  led_first : sized (set_of w b) ≡ true → (l : List ℕ) → all_led l ≡ (option_eq eqb (find decides l) (Some q) && within (set_of w b) (set_of w q))
  led_first some [] = let z = some_base (bases (set_of w b)) some in all_false (λ x. leads q (left x [])) (bases (set_of w b)) z.0 z.1 refl
  led_first some (c ∷ cs) = elim (cases_Bool (eqb c q)) [
    | inl t ↦ led_here c cs t ∙ rw (t, t)
    | inr f ↦ elim (cases_Bool (eqb c b)) [
      | inl u ↦ led_on c cs (λ x m. inr (rw (f, u))) ∙ led_first some cs ∙ rw (f, u)
      | inr n ↦ elim (cases_Bool (shares (set_of w c) (set_of w b))) [
        | inl s ↦ led_blocked c cs f n s ∙ rw (f, n, s, f)
        | inr s ↦ led_on c cs (λ x m. inl (apart c x m s)) ∙ led_first some cs ∙ rw (f, n, s)
      ]
    ]
  ]
    where
      apart : (c x : ℕ) → member x (bases (set_of w b)) ≡ true → shares (set_of w c) (set_of w b) ≡ false → of_base x c ≡ false
      apart c x m s = elim (cases_Bool (of_base x c)) [ inr n ↦ n | inl t ↦ absurd (both_ways (shares (set_of w c) (set_of w b)) s (shares_base_lem (set_of w c) (set_of w b) x t m)) ]

  -- so told by what a search of the lines finds
  pub led_told : sized (set_of w b) ≡ true → (l : List ℕ) (found : Option ℕ) → found ≡ find decides l → within (set_of w b) (set_of w q) ≡ true → option_eq eqb found (Some q) ≡ all_led l
  led_told some l found is has_all = let e = led_first some l in rw is (grind arith)

  pub led-not : sized (set_of w b) ≡ true → (l : List ℕ) → within (set_of w b) (set_of w q) ≡ false → false ≡ all_led l
  led-not some l h = let e = led_first some l in grind arith

-- a batch is first in all its lines where it leads them, nothing left out
pub first_is : (w : Works) (r : Room) (b : ℕ) → first_in_lines w r b ≡ first_before w r b b
first_is w r b = all_same _ _ (bases (set_of w b)) (λ x m. ap (leads b) (sym (every (keep (λ c. member x (bases (set_of w c))) (r.settled ++ r.waiting)))))
  where
    every : (l : List ℕ) → keep (λ c. eqb c b || not (eqb c b)) l ≡ l
    every [] = refl
    every (c ∷ cs) = let ih = every cs in grind arith
