-- A line is written byte by byte: what is written stands at the front, and the rest of the buffer is as it was.
use Rattle.std.proofs.Common.{◌≡◌, ℕ, ◌+◌, ◌*◌, ◌/◌, ◌%◌, ◌<◌, ◌≤◌, List, [], ◌∷◌, ◌++◌, length, get_or, take, drop, set, sym, refl, ap, ◌∙◌, append_assoc, arith, length-append}
use Rattle.std.proofs.lemmas.List.{drop_more, set_at, take_more, length-take-le, take_all}
use Rattle.answers.specs.Answers.{digit, spelled, line_of}

length-spelled : (bytes : List ℕ) → length (spelled bytes) ≡ 2 * length bytes
length-spelled [] = refl
length-spelled (b ∷ bs) = omega (arith, length-spelled bs)

pub length-line : (bytes : List ℕ) → length (line_of bytes) ≡ 2 * length bytes + 1
length-line bytes = omega (arith, length-append (spelled bytes) (10 ∷ []), length-spelled bytes)

spelled-push : (bytes : List ℕ) (b : ℕ) → spelled (bytes ++ b ∷ []) ≡ (spelled bytes ++ digit (b / 16) ∷ []) ++ digit (b % 16) ∷ []
spelled-push [] b = refl
spelled-push (c ∷ bytes) b = ap (λ l. digit (c / 16) ∷ (digit (c % 16) ∷ l)) (spelled-push bytes b)

-- one character more at the front
put : (front old : List ℕ) (at c : ℕ) → length front ≡ at → at < length old → set (front ++ drop at old) at c ≡ (front ++ c ∷ []) ++ drop (at + 1) old
put front old at c l h =
    ap (λ rest. set (front ++ rest) at c) (drop_more old at 0 h)
    ∙ set_at front (get_or old at 0) (drop (at + 1) old) c at l
    ∙ sym (append_assoc front (c ∷ []) (drop (at + 1) old))

-- what the buffer holds once i bytes are written
abbrev pub written : List ℕ → List ℕ → ℕ → List ℕ
written bytes old i = spelled (take i bytes) ++ drop (2 * i) old

front_length : (bytes : List ℕ) (i : ℕ) → i ≤ length bytes → length (spelled (take i bytes)) ≡ 2 * i
front_length bytes i h = omega (arith, length-spelled (take i bytes), length-take-le i bytes h)

pub one_byte : (bytes old : List ℕ) (i : ℕ) → i < length bytes → 2 * length bytes + 1 ≤ length old
    → set (set (written bytes old i) (2 * i) (digit (get_or bytes i 0 / 16))) (2 * i + 1) (digit (get_or bytes i 0 % 16)) ≡ written bytes old (i + 1)
one_byte bytes old i h k =
    let front : List ℕ = spelled (take i bytes) in
    let high : ℕ = digit (get_or bytes i 0 / 16) in
    let low : ℕ = digit (get_or bytes i 0 % 16) in
    let more : (front ++ high ∷ []) ++ low ∷ [] ≡ spelled (take (i + 1) bytes) =
    sym (ap spelled (take_more bytes i 0 h) ∙ spelled-push (take i bytes) (get_or bytes i 0)) in
    let two : 2 * i + 1 + 1 ≡ 2 * (i + 1) = omega arith in
    ap (λ s. set s (2 * i + 1) low) (put front old (2 * i) high (front_length bytes i (omega arith)) (omega arith))
    ∙ put (front ++ high ∷ []) old (2 * i + 1) low (omega (arith, length-append front (high ∷ []), front_length bytes i (omega arith))) (omega arith)
    ∙ ap (λ s. s ++ drop (2 * i + 1 + 1) old) more
    ∙ ap (λ n. spelled (take (i + 1) bytes) ++ drop n old) two

pub line_feed : (bytes old : List ℕ) → 2 * length bytes + 1 ≤ length old
    → set (written bytes old (length bytes)) (2 * length bytes) 10 ≡ line_of bytes ++ drop (2 * length bytes + 1) old
line_feed bytes old k =
    let all : take (length bytes) bytes ≡ bytes = take_all (length bytes) bytes (omega arith) in
    rw all (put (spelled bytes) old (2 * length bytes) 10 (length-spelled bytes) (omega arith))
