-- The laws of reading a line, for any table of kinds: once the kind is read, the rest is numbers and the line's end.
use Rattle.std.proofs.Common.{◌≡◌, ℕ, ◌+◌, ◌-◌, ◌*◌, ◌/◌, ◌%◌, ◌<◌, ◌≤◌, Bool, true, false, cond, ◌&&◌, eqb, leb, ◌⊎◌, List, [], ◌∷◌, ◌++◌, length, take, replicate, Ok, Err, codes, Result, sym, refl, ap, ◌∙◌, inl, inr, arith, MatchResult}
use Rattle.std.proofs.lemmas.Bool.{cases_Bool, cases_lt, eqb-true, eq-eqb, leb-true, and_parts, or_cases, true≢false}
use Rattle.std.proofs.lemmas.List.{get_or-take, length-append, length-take, take_all}
use Rattle.frames.specs.declared.frame.Frame.{Frame}
use Rattle.frames.specs.declared.frame.Frame.TheVariants.{Seal}
use Rattle.frames.specs.declared.frame.TextFault.{TextFault}
use Rattle.frames.specs.Digits.{fault, then, digit_at}
use Rattle.frames.specs.Kinds.{Kind, kinds}
use Rattle.frames.specs.Reading.{fields_at, begins_kind, kind_of, frame_of, reading_by, reading}
use Rattle.frames.specs.Writing.{character}
use Rattle.frames.specs.Laws.{IsFrame, FirstFault, FaultsAreFirst, FrontDecides}
use Rattle.frames.proofs.Texts.{character-value}
use Rattle.frames.proofs.Places.{Same, Rest, end_rest, number-rest, zeros, zeros-length, zeros-digits, front_same, then-fault, then_ok, same_place, no_fault, digit-fault, digit_ok, digit-same, digit-within}

-- the place behind fields of these widths
abbrev behind : ℕ → List ℕ → ℕ
behind at [] = at
behind at (w ∷ ws) = behind (at + 2 * w) ws

behind_le : (at : ℕ) (ws : List ℕ) → at ≤ behind at ws
behind_le at [] = omega arith
behind_le at (w ∷ ws) = omega (arith, behind_le (at + 2 * w) ws)

fields_rest : (at : ℕ) (ws : List ℕ) (frame : List ℕ → Frame) → Rest (λ xs. fields_at xs at ws frame) at (behind at ws)
fields_rest at [] frame = end_rest at (frame [])
fields_rest at (w ∷ ws) frame =
    number-rest at (2 * w) (behind (at + 2 * w) ws) (λ v xs. fields_at xs (at + 2 * w) ws (λ vs. frame (v ∷ vs)))
    (behind_le (at + 2 * w) ws) (λ v. fields_rest (at + 2 * w) ws (λ vs. frame (v ∷ vs)))

-- every kind's frames end by a place
abbrev short : ℕ → List Kind → Bool
short most [] = true
short most (k ∷ ks) = leb (behind 2 k.widths) most && short most ks

-- What the number of a kind finds in a table: the rest of a reading.
record Found (most : ℕ) (ks : List Kind) (number : ℕ) : Type 0 where
  to : ℕ
  long : 2 ≤ to
  fits : to ≤ most
  rest : Rest (λ xs. frame_of ks xs number) 2 to

found_here : (most : ℕ) (k : Kind) (ks : List Kind) (number : ℕ) → short most (k ∷ ks) ≡ true → eqb number k.number ≡ true → Found most (k ∷ ks) number
found_here most k ks number s e = record {
  to = behind 2 k.widths;
  long = behind_le 2 k.widths;
  fits = leb-true (behind 2 k.widths) most (and_parts (leb (behind 2 k.widths) most) (short most ks) s).0;
  rest = rw e (fields_rest 2 k.widths k.frame);
}

found_below : (most : ℕ) (k : Kind) (ks : List Kind) (number : ℕ) → eqb number k.number ≡ false → Found most ks number → Found most (k ∷ ks) number
found_below most k ks number e f = record { to = f.to; long = f.long; fits = f.fits; rest = rw e f.rest }

short-below : (most : ℕ) (k : Kind) (ks : List Kind) → short most (k ∷ ks) ≡ true → short most ks ≡ true
short-below most k ks s = (and_parts (leb (behind 2 k.widths) most) (short most ks) s).1

found : (most : ℕ) (ks : List Kind) (number : ℕ) → short most ks ≡ true → ((xs : List ℕ) → frame_of ks xs number ≡ fault 1) ⊎ Found most ks number
found most [] number s = inl (λ xs. refl)
found most (k ∷ ks) number s =
    elim (cases_Bool (eqb number k.number)) [
      | inl e ↦ inr (found_here most k ks number s e)
      | inr e ↦ elim (found most ks number (short-below most k ks s)) [
        | inl none ↦ inl (λ xs. rw e (none xs))
        | inr f ↦ inr (found_below most k ks number e f)
      ]
    ]

-- a digit that begins some kind's number
opened : (most : ℕ) (ks : List Kind) (high : ℕ) → short most ks ≡ true → begins_kind ks high ≡ true
    → (number : ℕ) × (high ≡ number / 16) × Found most ks number
opened most [] high s e = absurd (true≢false (sym e))
opened most (k ∷ ks) high s e =
    elim (or_cases (eqb high (k.number / 16)) (begins_kind ks high) e) [
      | inl here ↦ (k.number, eqb-true high (k.number / 16) here, found_here most k ks k.number s (eq-eqb k.number k.number refl))
      | inr below ↦
          let rest = opened most ks high (short-below most k ks s) below in (
            rest.0,
            rest.1,
            elim (cases_Bool (eqb rest.0 k.number)) [
              | inl e ↦ found_here most k ks rest.0 s e
              | inr e ↦ found_below most k ks rest.0 e rest.2
            ],
          )
    ]

module _ (most : ℕ) (ks : List Kind) (s : short most ks ≡ true) where
  -- where a reading stops
  data Stopped (xs : List ℕ) (p : ℕ) : Type 0 where
    first : p ≡ 0 → ((zs : List ℕ) → Same 1 xs zs → reading_by ks zs ≡ fault 0) → Stopped xs p
    second : (high : ℕ) → p ≡ 1 → digit_at xs 0 ≡ Ok high → begins_kind ks high ≡ true → ((zs : List ℕ) → Same 2 xs zs → reading_by ks zs ≡ fault 1) → Stopped xs p
    later : (high low : ℕ) → digit_at xs 0 ≡ Ok high → begins_kind ks high ≡ true → digit_at xs 1 ≡ Ok low
        → Found most ks (high * 16 + low) → frame_of ks xs (high * 16 + low) ≡ fault p → Stopped xs p

  reads_on : (zs : List ℕ) (high low : ℕ) → digit_at zs 0 ≡ Ok high → begins_kind ks high ≡ true → digit_at zs 1 ≡ Ok low
      → reading_by ks zs ≡ frame_of ks zs (high * 16 + low)
  reads_on zs high low h b l = rw (h, b, l)

  kind_ok : (xs : List ℕ) (number : ℕ) → kind_of ks xs ≡ Ok number
      → (high low : ℕ) × (digit_at xs 0 ≡ Ok high) × (begins_kind ks high ≡ true) × (digit_at xs 1 ≡ Ok low) × (high * 16 + low ≡ number)
  kind_ok xs number e =
      let t = then_ok (digit_at xs 0) (λ high. cond (begins_kind ks high) (then (digit_at xs 1) (λ low. Ok (high * 16 + low))) (fault 0)) number e in
      elim (cases_Bool (begins_kind ks t.0)) [
        | inl b ↦
            let u = then_ok (digit_at xs 1) (λ low. Ok (t.0 * 16 + low)) number (rw b at t.2) in
            let same : t.0 * 16 + u.0 ≡ number = cc u.2 in
            (t.0, u.0, t.1, b, u.1, same)
        | inr b ↦ no_fault number 0 (sym (rw b at t.2))
      ]

  stopped_kind : (xs : List ℕ) (p : ℕ) → kind_of ks xs ≡ fault p → Stopped xs p
  stopped_kind xs p e =
      elim (then-fault (digit_at xs 0) (λ high. cond (begins_kind ks high) (then (digit_at xs 1) (λ low. Ok (high * 16 + low))) (fault 0)) p e) [
        | inl f ↦
            let here = digit-fault xs 0 p f in
            first here (λ zs same. rw (digit-same xs zs 1 0 same (omega arith), f, here))
        | inr t ↦ elim (cases_Bool (begins_kind ks t.0)) [
          | inl b ↦ elim (then-fault (digit_at xs 1) (λ low. Ok (t.0 * 16 + low)) p (rw b at t.2)) [
            | inl f ↦
                let here = digit-fault xs 1 p f in
                second t.0 here t.1 b (λ zs same.
                rw (digit-same xs zs 2 0 same (omega arith), t.1, b, digit-same xs zs 2 1 same (omega arith), f, here))
            | inr u ↦ no_fault (t.0 * 16 + u.0) p u.2
          ]
          | inr b ↦
              let here = same_place 0 p (rw b at t.2) in
              first (sym here) (λ zs same. rw (digit-same xs zs 1 0 same (omega arith), t.1, b))
        ]
      ]

  stopped : (xs : List ℕ) (p : ℕ) → reading_by ks xs ≡ fault p → Stopped xs p
  stopped xs p e =
      elim (then-fault (kind_of ks xs) (frame_of ks xs) p e) [
        | inl f ↦ stopped_kind xs p f
        | inr t ↦
            let (high, low, h, b, l, same) = kind_ok xs t.0 t.1 in
            let rest : frame_of ks xs (high * 16 + low) ≡ fault p = rw same t.2 in
            elim (found most ks (high * 16 + low) s) [
              | inl none ↦ second high (sym (same_place 1 p (sym (none xs) ∙ rest))) h b
                  (λ zs same. reads_on zs high low (digit-same xs zs 2 0 same (omega arith) ∙ h) b (digit-same xs zs 2 1 same (omega arith) ∙ l) ∙ none zs)
              | inr f ↦ later high low h b l f rest
            ]
      ]

  pub stops_by : (xs : List ℕ) (p : ℕ) → 1 ≤ most → reading_by ks xs ≡ fault p → p ≤ most
  stops_by xs p m e =
      elim (stopped xs p e) [
        | first here again ↦ omega arith
        | second high here h b again ↦ omega arith
        | later high low h b l f e ↦ omega (arith, f.fits, (f.rest.between xs p e).1)
      ]

  pub stops_within : (xs : List ℕ) (p : ℕ) → reading_by ks xs ≡ fault p → p ≤ length xs
  stops_within xs p e =
      elim (stopped xs p e) [
        | first here again ↦ omega arith
        | second high here h b again ↦ omega (arith, digit-within xs 0 (digit_ok xs 0 high h))
        | later high low h b l f e ↦ f.rest.within xs p (digit-within xs 1 (digit_ok xs 1 low l)) e
      ]

  pub stops_again : (xs zs : List ℕ) (p : ℕ) → reading_by ks xs ≡ fault p → Same (p + 1) xs zs → p < length zs → reading_by ks zs ≡ fault p
  stops_again xs zs p e same long =
      elim (stopped xs p e) [
        | first here again ↦ rw here (again zs (λ i k. same i (omega arith)))
        | second high here h b again ↦ rw here (again zs (λ i k. same i (omega arith)))
        | later high low h b l f e ↦
            let near = f.rest.between xs p e in
            reads_on zs high low (digit-same xs zs (p + 1) 0 same (omega arith) ∙ h) b (digit-same xs zs (p + 1) 1 same (omega arith) ∙ l)
            ∙ f.rest.fails xs zs p e same long
      ]

  pub ends_by : (xs : List ℕ) (f : Frame) → reading_by ks xs ≡ Ok f → length xs ≤ most
  ends_by xs f e =
      let t = then_ok (kind_of ks xs) (frame_of ks xs) f e in
      elim (found most ks t.0 s) [
        | inl none ↦ no_fault f 1 (sym t.2 ∙ none xs)
        | inr k ↦ omega (arith, k.fits, k.rest.ends xs f t.2)
      ]

  -- a kind's first digit, completed to a frame of that kind
  first-begins : (x high number : ℕ) → digit_at (x ∷ []) 0 ≡ Ok high → begins_kind ks high ≡ true → high ≡ number / 16 → Found most ks number
      → (ys : List ℕ) × (f : Frame) × (reading_by ks (x ∷ ys) ≡ Ok f)
  unfolding zeros
  first-begins x high number h b n k =
      let c : ℕ = character (number % 16) in
      let line : List ℕ = zeros (x ∷ c ∷ []) 2 k.to in
      let low : digit_at line 1 ≡ Ok (number % 16) = rw (character-value (number % 16) (omega arith)) in
      let kind : high * 16 + number % 16 ≡ number = omega arith in
      let done = k.rest.whole line (zeros-digits (x ∷ c ∷ []) 2 2 k.to (omega arith) (λ i m n. absurd (omega arith)))
      (omega (arith, zeros-length (x ∷ c ∷ []) 2 k.to (omega arith) k.long)) in
      (c ∷ replicate (k.to - 2) 48, done.0, reads_on line high (number % 16) h b low ∙ ap (frame_of ks line) kind ∙ done.1)

  second-begins : (xs : List ℕ) (high : ℕ) → digit_at xs 0 ≡ Ok high → begins_kind ks high ≡ true
      → (ys : List ℕ) × (f : Frame) × (reading_by ks (take 1 xs ++ ys) ≡ Ok f)
  second-begins [] high h b = no_fault high 0 (sym h)
  second-begins (x ∷ xs) high h b =
      let (number, n, k) = opened most ks high s b in
      first-begins x high number h b n k

  pub begins-before : (xs : List ℕ) (p : ℕ) → (ys : List ℕ) × (f : Frame) × (reading_by ks ys ≡ Ok f) → reading_by ks xs ≡ fault p
      → (ys : List ℕ) × (f : Frame) × (reading_by ks (take p xs ++ ys) ≡ Ok f)
  begins-before xs p some e =
      elim (stopped xs p e) [
        | first here again ↦ rw here some
        | second high here h b again ↦ rw here (second-begins xs high h b)
        | later high low h b l f e ↦
            let near = f.rest.between xs p e in
            let long = digit-within xs 1 (digit_ok xs 1 low l) in
            let inside = f.rest.within xs p long e in
            let done = f.rest.begins xs p long e in
            let same = front_same xs done.0 p inside in (
              done.0,
              done.1,
              reads_on (take p xs ++ done.0) high low (digit-same xs (take p xs ++ done.0) p 0 same (omega arith) ∙ h) b (digit-same xs (take p xs ++ done.0) p 1 same (omega arith) ∙ l)
                  ∙ done.2,
            )
      ]

  -- no frame begins with what leads to a fault
  pub none-begins : (xs : List ℕ) (p : ℕ) → reading_by ks xs ≡ fault p → p < length xs
      → (ys : List ℕ) (f : Frame) → reading_by ks (take (p + 1) xs ++ ys) ≡ Ok f → ⊥
  none-begins xs p e inside ys f g =
      let long : p < length (take (p + 1) xs ++ ys) = omega (arith, length-append (take (p + 1) xs) ys, length-take (p + 1) xs) in
      no_fault f p (sym g ∙ stops_again xs (take (p + 1) xs ++ ys) p e (front_same xs ys (p + 1) (omega arith)) long)

  -- more characters than the longest frame has are enough
  pub enough : (n : ℕ) (xs : List ℕ) → 1 ≤ most → most < n → reading_by ks (take n xs) ≡ reading_by ks xs
  enough n xs some more =
      elim (cases_lt n (length xs)) [
        | inl long ↦ go long (reading_by ks xs) refl
        | inr all ↦ ap (reading_by ks) (take_all n xs all)
      ]
    where
      go : n < length xs → (r : Result Frame TextFault) → reading_by ks xs ≡ r → reading_by ks (take n xs) ≡ reading_by ks xs
      go long (Ok f) e = absurd (omega (arith, ends_by xs f e))
      go long (Err x) e =
          let by = stops_by xs x.place some e in
          stops_again xs (take n xs) x.place e (λ i h. sym (get_or-take n xs i 0 (omega arith))) (omega (arith, length-take n xs)) ∙ sym e

some-frame : (ys : List ℕ) × (f : Frame) × (reading ys ≡ Ok f)
some-frame = (codes "04", Seal, refl)

pub faults_are_first_lem : FaultsAreFirst
faults_are_first_lem xs p e = record {
  within = stops_within 124 kinds refl xs p e;
  before = let b = begins-before 124 kinds refl xs p some-frame e in (b.0, (b.1, b.2));
  here = elim (cases_lt p (length xs)) [
    | inl inside ↦ inr (λ b. none-begins 124 kinds refl xs p e inside b.0 b.1.0 b.1.1)
    | inr ended ↦ inl (omega (arith, stops_within 124 kinds refl xs p e))
  ];
}

pub front_decides_lem : FrontDecides
front_decides_lem xs = enough 124 kinds refl 125 xs (omega arith) (omega arith)

-- what the answer of a reading says of its line
pub reading_cases : (xs : List ℕ) (r : Result Frame TextFault) → r ≡ reading xs → MatchResult r (λ _. IsFrame xs) (λ e. FirstFault xs e.place)
reading_cases xs (Ok f) e = (f, sym e)
reading_cases xs (Err x) e = faults_are_first_lem xs x.place (sym e)
