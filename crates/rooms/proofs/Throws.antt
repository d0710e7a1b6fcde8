-- The loops over the table of records, one turn at a time: each record afterwards, by what is left of the list of batches.
use Rattle.std.proofs.Common.{◌≡◌, ℕ, ◌+◌, ◌<◌, ◌≤◌, Bool, true, false, cond, not, ◌&&◌, ◌||◌, eqb, List, ◌∷◌, length, get_or, drop, set, None, Option, sym, refl, ap, ◌∙◌, inl, inr, arith}
use Rattle.std.proofs.lemmas.List.{at_drop_more, at_drop_all, get_or-set_same, get_or-set_other}
use Rattle.std.proofs.lemmas.Bool.{cases_Bool, cases_eq, eq-eqb, ne_eqb, eqb-true, ltb-true}
use Rattle.lists.specs.Words.{member, all, keep}
use Rattle.lists.proofs.Members.{member-head, member-get_or, all_get_d}
use Rattle.lists.proofs.Keeps.{member-keep}
use Rattle.batches.specs.declared.outcome.RunResult.{RunResult}
use Rattle.rooms.specs.declared.record.Record.{Record}
use Rattle.rooms.specs.Records.{blank, known}
use Rattle.rooms.specs.Settles.{unmarked}
use Rattle.rooms.proofs.Tables.{names_after}

same_cond : {X : Type 0} (b : Bool) (x y : X) → x ≡ y → cond b x y ≡ x
same_cond true x y e = refl
same_cond false x y e = sym e

-- naming a serializer: the record at the place gets it
module _ (table : List Record) (b : ℕ) (h : b < length table) (x : Record) (is : x ≡ get_or table b blank) (t : ℕ) where
  abbrev named : List Record
  named = set table b (record { mark = x.mark; serializer = t })

  pub named-turn : (l : List ℕ) (a : ℕ) → cond (member a l) t (get_or (set table b (record { mark = x.mark; serializer = t })) a blank).serializer ≡ cond (eqb a b || member a l) t (get_or table a blank).serializer
  named-turn l a = elim (cases_eq a b) [
    | inl e ↦ rw (eq-eqb a b e) (ap (λ n. cond (member a l) t n) (ap (λ n. (get_or named n blank).serializer) e ∙ ap (λ (r : Record). r.serializer) (get_or-set_same table b _ blank h)) ∙ same_cond (member a l) t t refl)
    | inr n ↦ rw (ne_eqb a b n) (ap (λ (r : Record). cond (member a l) t r.serializer) (get_or-set_other table b a _ blank n))
  ]

  pub named-marks : (a : ℕ) → (get_or (set table b (record { mark = x.mark; serializer = t })) a blank).mark ≡ (get_or table a blank).mark
  named-marks a = elim (cases_eq a b) [
    | inl e ↦ ap (λ n. (get_or named n blank).mark) e ∙ ap (λ (r : Record). r.mark) (get_or-set_same table b _ blank h) ∙ ap (λ (r : Record). r.mark) is ∙ sym (ap (λ n. (get_or table n blank).mark) e)
    | inr n ↦ ap (λ (r : Record). r.mark) (get_or-set_other table b a _ blank n)
  ]

-- throwing marks: a batch has lost its mark once it passes the test and stands in the list, but no more in what is left of it
abbrev pub lost : (ℕ → Bool) → List ℕ → List ℕ → ℕ → Bool
lost q all_of left a = q a && (member a all_of && not (member a left))

lost_other : (q : ℕ → Bool) (l rest : List ℕ) (a b : ℕ) → eqb a b ≡ false → lost q l (b ∷ rest) a ≡ lost q l rest a
lost_other q l rest a b e = rw e

-- a batch that is still to come has its mark
pub lost-not : (q : ℕ → Bool) (l left : List ℕ) (a : ℕ) → member a left ≡ true → lost q l left a ≡ false
lost-not q l left a m = rw m (two (q a) (member a l))
  where
    two : (x y : Bool) → (x && (y && false)) ≡ false
    two x y = grind arith

module _ (q : ℕ → Bool) (l rest : List ℕ) (b : ℕ) where
  -- nothing changes at a batch that does not pass, or stands there once more
  pub lost_passed : q b ≡ false → (a : ℕ) → lost q l (b ∷ rest) a ≡ lost q l rest a
  lost_passed e a = elim (cases_Bool (eqb a b)) [
    | inl t ↦ let z : q a ≡ false = ap q (eqb-true a b t) ∙ e in rw z
    | inr f ↦ lost_other q l rest a b f
  ]

  pub lost_later : member b rest ≡ true → (a : ℕ) → lost q l (b ∷ rest) a ≡ lost q l rest a
  lost_later e a = elim (cases_Bool (eqb a b)) [
    | inl t ↦ let z : member a rest ≡ true = ap (λ n. member n rest) (eqb-true a b t) ∙ e in rw (t, z)
    | inr f ↦ lost_other q l rest a b f
  ]

  -- at its last place it loses its mark
  module _ (table : List Record) (old : ℕ → Option RunResult) (h : b < length table) (x : Record) (passes : q b ≡ true) (there : member b l ≡ true) (last : member b rest ≡ false)
      (now : (a : ℕ) → (get_or table a blank).mark ≡ cond (lost q l (b ∷ rest) a) None (old a)) where
    pub lost-here : (a : ℕ) → (get_or (set table b (record { mark = None; serializer = x.serializer })) a blank).mark ≡ cond (lost q l rest a) None (old a)
    lost-here a = elim (cases_eq a b) [
      | inl e ↦ ap (λ n. (get_or (set table b (record { mark = None; serializer = x.serializer })) n blank).mark) e ∙ ap (λ (r : Record). r.mark) (get_or-set_same table b _ blank h) ∙ rw (e, passes, there, last)
      | inr n ↦ ap (λ (r : Record). r.mark) (get_or-set_other table b a _ blank n) ∙ now a ∙ ap (λ c. cond c None (old a)) (lost_other q l rest a b (ne_eqb a b n))
    ]

-- one turn of the loop, at the place i of the list
module _ (q : ℕ → Bool) (l : List ℕ) (i : ℕ) (h : i < length l) (table : List Record) (old : ℕ → Option RunResult)
    (now : (a : ℕ) → (get_or table a blank).mark ≡ cond (lost q l (drop i l) a) None (old a)) where
  abbrev here : ℕ
  here = get_or l i 0

  abbrev rest : List ℕ
  rest = drop (i + 1) l

  now_here : (a : ℕ) → (get_or table a blank).mark ≡ cond (lost q l (here ∷ rest) a) None (old a)
  now_here a = now a ∙ at_drop_more (λ r. cond (lost q l r a) None (old a)) l i 0 h

  -- the batch at the place still has its mark
  pub mark-here : (get_or table (get_or l i 0) blank).mark ≡ old (get_or l i 0)
  mark-here = now_here here ∙ rw (lost-not q l (here ∷ rest) here (member-head here rest))

  -- it loses it here, or keeps it
  module _ (k : get_or l i 0 < length table) (new : List Record) (is : new ≡ cond (q (get_or l i 0) && not (member (get_or l i 0) (drop (i + 1) l))) (unmarked table (get_or l i 0)) table) where
    pub marks-turn : (a : ℕ) → (get_or new a blank).mark ≡ cond (lost q l (drop (i + 1) l) a) None (old a)
    marks-turn a = ap (λ (t : List Record). (get_or t a blank).mark) is ∙ elim (cases_Bool (q here)) [
      | inr f ↦ rw f (now_here a ∙ ap (λ c. cond c None (old a)) (lost_passed q l rest here f a))
      | inl t ↦ elim (cases_Bool (member here rest)) [
        | inl m ↦ rw (t, m) (now_here a ∙ ap (λ c. cond c None (old a)) (lost_later q l rest here m a))
        | inr n ↦ rw (t, n) (lost-here q l rest here table old k (get_or table here blank) t (member-get_or l i h) n now_here a)
      ]
    ]

    pub names_turn : (a : ℕ) → (get_or new a blank).serializer ≡ (get_or table a blank).serializer
    names_turn a = ap (λ (t : List Record). (get_or t a blank).serializer) is ∙ kept (q here && not (member here rest))
      where
        kept : (b : Bool) → (get_or (cond b (unmarked table here) table) a blank).serializer ≡ (get_or table a blank).serializer
        kept true = ap (λ (f : ℕ → ℕ). f a) (names_after table here k (get_or table here blank) refl None)
        kept false = refl

-- at the end of the list each batch that passes and stands there has lost its mark
pub lost-all : (q : ℕ → Bool) (l : List ℕ) (i : ℕ) → length l ≤ i → (a : ℕ) → lost q l (drop i l) a ≡ member a (keep q l)
lost-all q l i h a = at_drop_all (λ r. lost q l r a) l i h ∙ all-gone (q a) (member a l) ∙ sym (member-keep q a l)
  where
    all-gone : (x y : Bool) → (x && (y && true)) ≡ (x && y)
    all-gone x y = grind arith

-- the batches of a list have a record
pub place-known : (l : List ℕ) (i : ℕ) → all known l ≡ true → get_or l i 0 < 256
place-known l i h = ltb-true (get_or l i 0) 256 (all_get_d known l 0 h refl i)
