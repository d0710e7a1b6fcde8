-- A reading goes from left to right and stops at the first character that cannot be: its fault depends on no character
-- behind that one, and what stands before it is the beginning of a frame, since zeros complete it.
use Rattle.std.proofs.Common.{◌≡◌, ℕ, zero, suc, ◌+◌, ◌-◌, ◌*◌, ◌<◌, ◌≤◌, true, ◌⊎◌, List, [], ◌++◌, length, get_or, take, replicate, is_some, Some, None, Ok, Err, Option, Result, sym, refl, ap, ◌∙◌, inl, inr, arith}
use Rattle.std.specs.Option.{ok_or}
use Rattle.std.proofs.lemmas.Bool.{cases_lt, cases_eq, true≢false, le-leb, lt-leb}
use Rattle.std.proofs.lemmas.List.{get_or_past, get_or-take, get_or_append_left, get_or-append_right, get_or-replicate, length-take, length-take-le, length-append, length-replicate}
use Rattle.frames.specs.declared.frame.TextFault.{TextFault}
use Rattle.frames.specs.Digits.{digit_value, fault, then, digit_at, more_at, number_at, end_at}

-- two lines have the same characters before a place
abbrev pub Same : ℕ → List ℕ → List ℕ → Type 0
Same n xs zs = (i : ℕ) → i < n → get_or xs i 0 ≡ get_or zs i 0

-- a line has a digit at a place
abbrev pub Digit : List ℕ → ℕ → Type 0
Digit xs i = is_some (digit_value (get_or xs i 0)) ≡ true

-- a line has digits from one place to another
abbrev pub Digits : List ℕ → ℕ → ℕ → Type 0
Digits xs from to = (i : ℕ) → from ≤ i → i < to → Digit xs i

module _ {A B : Type 0} where
  -- a fault of two parts is one of the first, or one of the second
  pub then-fault : (r : Result A TextFault) (f : A → Result B TextFault) (p : ℕ) → then r f ≡ fault p
      → (r ≡ fault p) ⊎ ((a : A) × (r ≡ Ok a) × (f a ≡ fault p))
  then-fault (Ok a) f p e = inr (a, refl, e)
  then-fault (Err x) f p e = inl cc

  -- what two parts give, the second gives from what the first gave
  pub then_ok : (r : Result A TextFault) (f : A → Result B TextFault) (b : B) → then r f ≡ Ok b
      → (a : A) × (r ≡ Ok a) × (f a ≡ Ok b)
  then_ok (Ok a) f b e = (a, refl, e)
  then_ok (Err x) f b e = cc

module _ {A : Type 0} where
  -- a fault has one place
  pub same_place : (p q : ℕ) → fault {A = A} p ≡ fault q → p ≡ q
  same_place p q e = let same : record { place = p } ≡ record { place = q } = cc in ap (λ (f : TextFault). f.place) same

  -- no value is a fault
  pub no_fault : {X : Type 0} (a : A) (p : ℕ) → Ok a ≡ fault p → X
  no_fault a p e = cc

-- the place of a digit that is not there is its own
pub digit-fault : (xs : List ℕ) (at p : ℕ) → digit_at xs at ≡ fault p → p ≡ at
digit-fault xs at p e = go (digit_value (get_or xs at 0)) e
  where
    go : (o : Option ℕ) → ok_or o (record { place = at }) ≡ fault p → p ≡ at
    go (Some d) e = no_fault d p e
    go None e = sym (same_place at p e)

pub digit_ok : (xs : List ℕ) (at d : ℕ) → digit_at xs at ≡ Ok d → Digit xs at
digit_ok xs at d e = go (digit_value (get_or xs at 0)) e
  where
    go : (o : Option ℕ) → ok_or {E = TextFault} o (record { place = at }) ≡ Ok d → is_some o ≡ true
    go (Some d) e = refl
    go None e = cc

pub digit-whole : (xs : List ℕ) (at : ℕ) → Digit xs at → (d : ℕ) × (digit_at xs at ≡ Ok d)
digit-whole xs at h = go (digit_value (get_or xs at 0)) h
  where
    go : (o : Option ℕ) → is_some o ≡ true → (d : ℕ) × (ok_or {E = TextFault} o (record { place = at }) ≡ Ok d)
    go (Some d) h = (d, refl)
    go None h = cc

pub digit-same : (xs zs : List ℕ) (n at : ℕ) → Same n xs zs → at < n → digit_at zs at ≡ digit_at xs at
digit-same xs zs n at same h = rw (same at h)

-- a digit stands within its line
pub digit-within : (xs : List ℕ) (at : ℕ) → Digit xs at → at < length xs
digit-within xs at h =
    elim (cases_lt at (length xs)) [
      | inl within ↦ within
      | inr past ↦ absurd (true≢false (sym (rw (get_or_past xs at 0 past) at h)))
    ]

-- so many digits from a place on: where a fault is, and what stands before it
more_fault : (count : ℕ) (xs : List ℕ) (at n p : ℕ) → more_at xs at count n ≡ fault p
    → (at ≤ p) × (p < at + count) × Digits xs at p
more_fault zero xs at n p e = no_fault n p e
more_fault (suc count) xs at n p e =
    elim (then-fault (digit_at xs at) (λ d. more_at xs (at + 1) count (n * 16 + d)) p e) [
      | inl f ↦
          let here = digit-fault xs at p f in
          (omega arith, omega arith, λ i h k. absurd (omega arith))
      | inr t ↦
          let rest = more_fault count xs (at + 1) (n * 16 + t.0) p t.2 in (
            omega arith,
            omega arith,
            λ i h k. elim (cases_eq i at) [
              | inl same ↦ rw same (digit_ok xs at t.0 t.1)
              | inr other ↦ rest.2 i (omega arith) k
            ],
          )
    ]

-- they depend on nothing behind a fault
more_fails : (count : ℕ) (xs zs : List ℕ) (at n p : ℕ) → more_at xs at count n ≡ fault p → Same (p + 1) xs zs → more_at zs at count n ≡ fault p
more_fails zero xs zs at n p e same = no_fault n p e
more_fails (suc count) xs zs at n p e same =
    elim (then-fault (digit_at xs at) (λ d. more_at xs (at + 1) count (n * 16 + d)) p e) [
      | inl f ↦
          let here = digit-fault xs at p f in
          rw (digit-same xs zs (p + 1) at same (omega arith), f)
      | inr t ↦
          let near = more_fault count xs (at + 1) (n * 16 + t.0) p t.2 in
          rw (digit-same xs zs (p + 1) at same (omega arith), t.1) (more_fails count xs zs (at + 1) (n * 16 + t.0) p t.2 same)
    ]

-- they depend on nothing behind themselves
more_gives : (count : ℕ) (xs zs : List ℕ) (at n v : ℕ) → more_at xs at count n ≡ Ok v → Same (at + count) xs zs → more_at zs at count n ≡ Ok v
more_gives zero xs zs at n v e same = e
more_gives (suc count) xs zs at n v e same =
    let t = then_ok (digit_at xs at) (λ d. more_at xs (at + 1) count (n * 16 + d)) v e in
    rw (digit-same xs zs (at + suc count) at same (omega arith), t.1)
    (more_gives count xs zs (at + 1) (n * 16 + t.0) v t.2 (λ i h. same i (omega arith)))

-- digits enough are a number
more_whole : (count : ℕ) (xs : List ℕ) (at n : ℕ) → Digits xs at (at + count) → (v : ℕ) × (more_at xs at count n ≡ Ok v)
more_whole zero xs at n h = (n, refl)
more_whole (suc count) xs at n h =
    let here = digit-whole xs at (h at (omega arith) (omega arith)) in
    let rest = more_whole count xs (at + 1) (n * 16 + here.0) (λ i a b. h i (omega arith) (omega arith)) in
    (rest.0, rw here.1 rest.1)

-- a number stands within its line
more_within : (count : ℕ) (xs : List ℕ) (at n v : ℕ) → at ≤ length xs → more_at xs at count n ≡ Ok v → at + count ≤ length xs
more_within zero xs at n v h e = omega arith
more_within (suc count) xs at n v h e =
    let t = then_ok (digit_at xs at) (λ d. more_at xs (at + 1) count (n * 16 + d)) v e in
    let here = digit-within xs at (digit_ok xs at t.0 t.1) in
    omega (arith, more_within count xs (at + 1) (n * 16 + t.0) v (omega arith) t.2)

-- What holds of the rest of a reading, from one place on to another, where the line ends at the latest: its faults stand
-- between the two and within the line (`between`, `within`), depend on nothing behind them (`fails`), and what is before
-- one can be completed (`begins`); a line that is read ends in time (`ends`), and one of digits throughout is read (`whole`).
pub record Rest {A : Type 0} (read : List ℕ → Result A TextFault) (from to : ℕ) : Type 0 where
  pub between : (xs : List ℕ) (p : ℕ) → read xs ≡ fault p → (from ≤ p) × (p ≤ to)
  pub within : (xs : List ℕ) (p : ℕ) → from ≤ length xs → read xs ≡ fault p → p ≤ length xs
  pub fails : (xs zs : List ℕ) (p : ℕ) → read xs ≡ fault p → Same (p + 1) xs zs → p < length zs → read zs ≡ fault p
  pub begins : (xs : List ℕ) (p : ℕ) → from ≤ length xs → read xs ≡ fault p → (ys : List ℕ) × (a : A) × (read (take p xs ++ ys) ≡ Ok a)
  pub ends : (xs : List ℕ) (a : A) → read xs ≡ Ok a → length xs ≤ to
  pub whole : (xs : List ℕ) → Digits xs from to → length xs ≤ to → (a : A) × (read xs ≡ Ok a)

-- the line's end
end_past : (xs : List ℕ) (at : ℕ) → at < length xs → end_at xs at ≡ fault at
end_past xs at h = rw (lt-leb (length xs) at h)

end_ok : (xs : List ℕ) (at : ℕ) → length xs ≤ at → end_at xs at ≡ Ok tt
end_ok xs at h = rw (le-leb (length xs) at h)

end-fault : {A : Type 0} (xs : List ℕ) (at p : ℕ) (a : A) → then (end_at xs at) (λ _. Ok a) ≡ fault p → (p ≡ at) × (at < length xs)
end-fault xs at p a e =
    elim (cases_lt at (length xs)) [
      | inl h ↦ (sym (same_place at p (rw (end_past xs at h) at e)), h)
      | inr h ↦ no_fault a p (rw (end_ok xs at h) at e)
    ]

pub end_rest : {A : Type 0} (at : ℕ) (a : A) → Rest (λ xs. then (end_at xs at) (λ _. Ok a)) at at
end_rest at a = record {
  between = λ xs p e. let here = end-fault xs at p a e in (omega arith, omega arith);
  within = λ xs p h e. let here = end-fault xs at p a e in omega arith;
  fails = λ xs zs p e same h.
      let here = end-fault xs at p a e in
      rw (here.0, end_past zs at (omega arith));
  begins = λ xs p h e.
      let here = end-fault xs at p a e in
      ([], a, rw (end_ok (take p xs ++ []) at (omega (arith, length-append (take p xs) [], length-take p xs))));
  ends = λ xs b e. elim (cases_lt at (length xs)) [
    | inl h ↦ no_fault b at (sym (rw (end_past xs at h) at e))
    | inr h ↦ h
  ];
  whole = λ xs h short. (a, rw (end_ok xs at short));
}

-- digits stand within their line
digits-within : (xs : List ℕ) (from p : ℕ) → from ≤ length xs → Digits xs from p → p ≤ length xs
digits-within xs from p h digits =
    elim (cases_lt from p) [
      | inl more ↦ omega (arith, digit-within xs (p - 1) (digits (p - 1) (omega arith) (omega arith)))
      | inr none ↦ omega arith
    ]

-- the front of a line is that of the line
pub front_same : (xs ys : List ℕ) (p : ℕ) → p ≤ length xs → Same p xs (take p xs ++ ys)
front_same xs ys p h i k =
    let long : i < length (take p xs) = omega (arith, length-take p xs) in
    sym (get_or_append_left (take p xs) ys 0 i long ∙ get_or-take p xs i 0 k)

-- the front of a line, with zeros behind it
unfoldable pub zeros : List ℕ → ℕ → ℕ → List ℕ
zeros xs p to = take p xs ++ replicate (to - p) 48

pub zeros-length : (xs : List ℕ) (p to : ℕ) → p ≤ length xs → p ≤ to → length (zeros xs p to) ≡ to
unfolding zeros
zeros-length xs p to h k = omega (arith, length-append (take p xs) (replicate (to - p) 48), length-take p xs, length-replicate {A = ℕ} (to - p) 48)

pub zeros-digits : (xs : List ℕ) (from p to : ℕ) → p ≤ length xs → Digits xs from p → Digits (zeros xs p to) from to
unfolding zeros
zeros-digits xs from p to h digits i a b =
    elim (cases_lt i p) [
      | inl front ↦ rw (front_same xs (replicate (to - p) 48) p h i front) at (digits i a front)
      | inr behind ↦
          let e : get_or (take p xs ++ replicate (to - p) 48) i 0 ≡ 48 =
          get_or-append_right (take p xs) (replicate (to - p) 48) p i 0 (length-take-le p xs h) behind
          ∙ get_or-replicate (to - p) (i - p) 48 0 (omega arith) in
          rw e
    ]

-- a number, and then a rest
module _ {A : Type 0} (at count to : ℕ) (read : ℕ → List ℕ → Result A TextFault) (fits : at + count ≤ to) (rest : (v : ℕ) → Rest (read v) (at + count) to) where
  number-whole : (xs : List ℕ) → Digits xs at to → length xs ≤ to → (a : A) × (then (number_at xs at count) (λ v. read v xs) ≡ Ok a)
  unfolding number_at
  number-whole xs digits short =
      let number = more_whole count xs at 0 (λ i h k. digits i h (omega arith)) in
      let more = (rest number.0).whole xs (λ i h k. digits i (omega arith) k) short in
      (more.0, rw number.1 more.1)

  pub number-rest : Rest (λ xs. then (number_at xs at count) (λ v. read v xs)) at to
  unfolding number_at
  number-rest = record {
    between = λ xs p e. elim (then-fault (more_at xs at count 0) (λ v. read v xs) p e) [
      | inl f ↦ let near = more_fault count xs at 0 p f in (omega arith, omega arith)
      | inr t ↦ let near = (rest t.0).between xs p t.2 in (omega arith, omega arith)
    ];
    within = λ xs p h e. elim (then-fault (more_at xs at count 0) (λ v. read v xs) p e) [
      | inl f ↦ digits-within xs at p h (more_fault count xs at 0 p f).2
      | inr t ↦ (rest t.0).within xs p (more_within count xs at 0 t.0 h t.1) t.2
    ];
    fails = λ xs zs p e same h. elim (then-fault (more_at xs at count 0) (λ v. read v xs) p e) [
      | inl f ↦ rw (more_fails count xs zs at 0 p f same)
      | inr t ↦
          let near = (rest t.0).between xs p t.2 in
          rw (more_gives count xs zs at 0 t.0 t.1 (λ i k. same i (omega arith))) ((rest t.0).fails xs zs p t.2 same h)
    ];
    begins = λ xs p h e. elim (then-fault (more_at xs at count 0) (λ v. read v xs) p e) [
      | inl f ↦
          let near = more_fault count xs at 0 p f in
          let inside = digits-within xs at p h near.2 in
          let done = number-whole (zeros xs p to) (zeros-digits xs at p to inside near.2) (omega (arith, zeros-length xs p to inside (omega arith))) in
          (replicate (to - p) 48, done.0, unfold zeros in done.1)
      | inr t ↦
          let near = (rest t.0).between xs p t.2 in
          let long = more_within count xs at 0 t.0 h t.1 in
          let inside = (rest t.0).within xs p long t.2 in
          let done = (rest t.0).begins xs p long t.2 in
          (done.0, done.1, rw (more_gives count xs (take p xs ++ done.0) at 0 t.0 t.1 (λ i k. front_same xs done.0 p inside i (omega arith))) done.2)
    ];
    ends = λ xs a e.
        let t = then_ok (more_at xs at count 0) (λ v. read v xs) a e in
        (rest t.0).ends xs a t.2;
    whole = λ xs digits short. number-whole xs digits short;
  }
