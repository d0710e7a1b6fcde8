-- First in the line of each base, as a room tests it, and as the picture says it: nothing heard and not installed that
-- shares a base stands sooner.
use Rattle.std.proofs.Common.{◌≡◌, ℕ, suc, Bool, true, false, not, ◌&&◌, ◌||◌, eqb, ltb, List, [], ◌∷◌, ◌++◌, sym, refl, ap, ◌∙◌, inl, inr, arith}
use mathlib.Core.Path.{fun_ext}
use Rattle.std.proofs.lemmas.Bool.{cases_Bool, cases_eq, eqb-true, eqb-false, eq-eqb, ne_eqb, and_parts, and_from, or_left, or_right}
use Rattle.lists.specs.Words.{member, any, all, place, before, keep}
use Rattle.lists.proofs.Members.{member-append, all_at, all_from}
use Rattle.lists.proofs.Keeps.{keep-keep, keep_all, member-keep, place-keep}
use Rattle.lists.proofs.Befores.{before_members, before_self}
use Rattle.sets.specs.Sets.{bases}
use Rattle.sets.proofs.Members.{shared_base}
use Rattle.order.specs.Works.{Works, set_of, has_base, share}
use Rattle.order.proofs.Serials.{share_base}
use Rattle.agreement.specs.Rooms.{Room, line, leads, first_in_lines, first_before}
use Rattle.agreement.proofs.Pictures.{Scene, Picture, Invariant, First, sits, sooner, settled_of, waiting_of}
use Rattle.agreement.proofs.Puts.{clash}
use Rattle.agreement.proofs.Standing.{settled-heard}
use Rattle.agreement.proofs.Lines.{in_line, line-order, member_settled, member-waiting}
use Rattle.agreement.proofs.Fits.{RoomFits}

leads-first : (q : ℕ) (l : List ℕ) → leads q l ≡ true → (member q l ≡ true) × (place q l ≡ 0)
leads-first q [] h = clash false h refl
leads-first q (c ∷ l) h = let e : eqb q c ≡ true = eq-eqb q c (sym (eqb-true c q h)) in (or_left (eqb q c) (member q l) e, rw e)

first-leads : (q : ℕ) (l : List ℕ) → member q l ≡ true → ((d : ℕ) → member d l ≡ true → (d ≡ q → ⊥) → ltb (place d l) (place q l) ≡ false) → leads q l ≡ true
first-leads q [] m h = m
first-leads q (c ∷ l) m h = elim (cases_eq c q) [
  | inl e ↦ eq-eqb c q e
  | inr ne ↦
      let cc : eqb c c ≡ true = eq-eqb c c refl in let qc : eqb q c ≡ false = ne_eqb q c (λ e. ne (sym e)) in
      clash (ltb 0 (suc (place q l))) (above (place q l)) (rw (cc, qc) at (h c (or_left (eqb c c) (member c l) cc) ne))
]
  where
    above : (n : ℕ) → ltb 0 (suc n) ≡ true
    above n = grind arith

-- q in the line that Q's elements with a base make, leaving out b where it is another
module _ (base : ℕ → Bool) (Q : List ℕ) (b q : ℕ) where
  abbrev fit : ℕ → Bool
  fit c = eqb c q || not (eqb c b)

  abbrev both : ℕ → Bool
  both c = (eqb c q || not (eqb c b)) && base c

  leader_alone : (d : ℕ) → leads q (keep (λ c. eqb c q || not (eqb c b)) (keep base Q)) ≡ true → base d ≡ true → (d ≡ b → ⊥) → before Q d q ≡ true → ⊥
  leader_alone d h hd ne bef =
      let z = leads-first q (keep both Q) (ap (leads q) (sym (keep-keep fit base Q)) ∙ h) in
      let mq = and_parts (both q) (member q Q) (sym (member-keep both q Q) ∙ z.0) in
      let nb : eqb d b ≡ false = ne_eqb d b ne in
      let pd : both d ≡ true = and_from (fit d) (base d) (or_right (eqb d q) (not (eqb d b)) (ap not nb)) hd in
      let e = place-keep both d q Q pd mq.0 (before_members d q Q bef).0 mq.1 in
      let y : ltb (place d (keep both Q)) (place q (keep both Q)) ≡ true = e ∙ (and_parts (ltb (place d Q) (place q Q)) (member q Q) bef).0 in
      low (place d (keep both Q)) (place q (keep both Q)) y z.1
    where
      low : (x y : ℕ) → ltb x y ≡ true → y ≡ 0 → ⊥
      low x y h e = grind arith

  alone-leads : member q Q ≡ true → base q ≡ true → ((d : ℕ) → member d Q ≡ true → base d ≡ true → (d ≡ b → ⊥) → before Q d q ≡ false) → leads q (keep (λ c. eqb c q || not (eqb c b)) (keep base Q)) ≡ true
  alone-leads mq hq none = ap (leads q) (keep-keep fit base Q) ∙ first-leads q (keep both Q) (member-keep both q Q ∙ and_from (both q) (member q Q) pq mq)
      (λ d md ne. go d (and_parts (both d) (member d Q) (sym (member-keep both d Q) ∙ md)) ne)
    where
      pq : both q ≡ true
      pq = and_from (fit q) (base q) (or_left (eqb q q) (not (eqb q b)) (eq-eqb q q refl)) hq

      other : (e f : Bool) → (e || not f) ≡ true → e ≡ false → f ≡ false
      other e f h k = grind arith

      there : (x m : Bool) → (x && m) ≡ false → m ≡ true → x ≡ false
      there x m h k = grind arith

      go : (d : ℕ) → (both d ≡ true) × (member d Q ≡ true) → (d ≡ q → ⊥) → ltb (place d (keep both Q)) (place q (keep both Q)) ≡ false
      go d z ne = let y = and_parts (fit d) (base d) z.0 in
          place-keep both d q Q z.0 pq z.1 mq ∙ there (ltb (place d Q) (place q Q)) (member q Q) (none d z.1 y.1 (eqb-false d b (other (eqb d q) (eqb d b) y.0 (ne_eqb d q ne)))) mq

line_cases : (i a m : Bool) → ((not i && a) || ((not i && not a) && m)) ≡ true → (a ≡ true → m ≡ true) → (i ≡ false) × (m ≡ true)
line_cases i a m h k = (grind arith, grind arith)

module _ (w : Scene) (s : Picture) (i : Invariant w s) (k : ℕ) (r : Room) (o : RoomFits w s k r) where
  abbrev ws : Works
  ws = w.works

  abbrev Q : List ℕ
  Q = settled_of w s k ++ waiting_of w s k

  lines_are : r.settled ++ r.waiting ≡ Q
  lines_are = ap (λ l. l ++ r.waiting) o.settled_is ∙ ap (λ l. settled_of w s k ++ l) o.waiting_is

  line_in : (d : ℕ) → member d Q ≡ true → (s.installed k d ≡ false) × (member d (s.heard k) ≡ true)
  line_in d m = line_cases (s.installed k d) (any (sits w s k d) (s.taken k)) (member d (s.heard k))
      (sym (member-append d (settled_of w s k) (waiting_of w s k) ∙ ap (λ b. b || member d (waiting_of w s k)) (member_settled w s k d) ∙
      ap (λ b. (not (s.installed k d) && any (sits w s k d) (s.taken k)) || b) (member-waiting w s k d)) ∙ m) (settled-heard w s i k d)

  module _ (b q : ℕ) (hq : member q Q ≡ true) where
    abbrev test : ℕ → Bool
    test x = leads q (keep (λ c. eqb c q || not (eqb c b)) (line ws r x))

    pub first-sooner : first_before ws r b q ≡ true → (d : ℕ) → member d (s.heard k) ≡ true → s.installed k d ≡ false → (d ≡ b → ⊥) → share ws d b ≡ true → sooner w s k d q ≡ false
    first-sooner c d md nd ne sh =
        let x = shared_base (set_of ws d) (set_of ws b) sh in
        sym (line-order w s k d q (in_line w s k d md nd) hq) ∙ elim (cases_Bool (before Q d q)) [
          | inr f ↦ f
          | inl t ↦
              absurd (leader_alone (λ c. has_base ws c x.0) (r.settled ++ r.waiting) b q d (all_at test (bases (set_of ws b)) c x.0 x.2) x.1 ne (ap (λ l. before l d q) lines_are ∙ t))
        ]

    pub sooner-first : ((x : ℕ) → has_base ws b x ≡ true → has_base ws q x ≡ true) →
        ((d : ℕ) → member d (s.heard k) ≡ true → s.installed k d ≡ false → (d ≡ b → ⊥) → share ws d b ≡ true → sooner w s k d q ≡ false) → first_before ws r b q ≡ true
    sooner-first wi f = all_from test (bases (set_of ws b)) (λ x hx.
        alone-leads (λ c. has_base ws c x) (r.settled ++ r.waiting) b q (ap (member q) lines_are ∙ hq) (wi x hx)
        (λ d md hd ne. let mq : member d Q ≡ true = ap (member d) (sym lines_are) ∙ md in let u = line_in d mq in
        ap (λ l. before l d q) lines_are ∙ line-order w s k d q mq hq ∙ f d u.1 u.0 ne (share_base ws d b x hd hx)))

  -- a batch's own lines: nothing is left out
  own_lines : (b : ℕ) → first_before ws r b b ≡ first_in_lines ws r b
  own_lines b = ap (λ (f : ℕ → Bool). all f (bases (set_of ws b))) (fun_ext (λ x. ap (leads b) (keep_all (λ c. eqb c b || not (eqb c b)) (line ws r x) (λ c _. whole (eqb c b)))))
    where
      whole : (t : Bool) → (t || not t) ≡ true
      whole t = grind arith

  pub first-is_first : (b : ℕ) → member b (s.heard k) ≡ true → s.installed k b ≡ false → first_in_lines ws r b ≡ true → First w s k b
  first-is_first b hb new c d md nd sh = elim (cases_eq d b) [
    | inl e ↦ rw e (sym (line-order w s k b b line-b line-b) ∙ before_self Q b)
    | inr ne ↦ first-sooner b b line-b (own_lines b ∙ c) d md nd ne sh
  ]
    where
      line-b : member b Q ≡ true
      line-b = in_line w s k b hb new

  pub is_first-first : (b : ℕ) → member b (s.heard k) ≡ true → s.installed k b ≡ false → First w s k b → first_in_lines ws r b ≡ true
  is_first-first b hb new f = sym (own_lines b) ∙ sooner-first b b (in_line w s k b hb new) (λ _ hx. hx) (λ d md nd _ sh. f d md nd sh)
