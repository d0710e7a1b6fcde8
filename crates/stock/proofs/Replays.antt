-- Entries replayed: an entry more at the end replaces one amount, and the last entry of a base is the one that counts,
-- since no later one replaces its amount. By induction over the entries.
use Rattle.std.proofs.Common.{◌≡◌, ℕ, zero, suc, ◌+◌, ◌<◌, ◌≤◌, ◌⊎◌, List, [], ◌∷◌, ◌++◌, length, get_or, take, set, sym, refl, ap, ◌∙◌, inl, inr, arith}
use Rattle.std.proofs.lemmas.List.{take_more_set, get_or-take, get_or_read}
use Rattle.std.proofs.lemmas.Bool.{eq-eqb, ne_eqb, cases_eq}
use Rattle.lists.specs.Words.{updated}
use Rattle.stock.specs.declared.entry.Entry.{Entry}
use Rattle.stock.specs.Stock.{Amounts}
use Rattle.stock.specs.Entries.{replayed, entry_at, NoneFrom, LastAt, LastCounts}

updated-same : (m : Amounts) (base amount x : ℕ) → base ≡ x → updated m base amount x ≡ amount
updated-same m base amount x e = rw (eq-eqb x base (sym e))

updated_other : (m : Amounts) (base amount x : ℕ) → (base ≡ x → ⊥) → updated m base amount x ≡ m x
updated_other m base amount x n = rw (ne_eqb x base (λ e. n (sym e)))

replayed-push : (entries : List Entry) (e : Entry) (m : Amounts) → replayed (entries ++ e ∷ []) m ≡ updated (replayed entries m) e.base e.amount
replayed-push [] e m = refl
replayed-push (f ∷ entries) e m = replayed-push entries e (updated m f.base f.amount)

-- a write to the first spare entry replaces one amount
pub replayed-write : (entries : List Entry) (used : ℕ) (e : Entry) (m : Amounts) → used < length entries → replayed (take (used + 1) (set entries used e)) m ≡ updated (replayed (take used entries) m) e.base e.amount
replayed-write entries used e m h = ap (λ es. replayed es m) (take_more_set entries used e h) ∙ replayed-push (take used entries) e m

none_rest : (e : Entry) (entries : List Entry) (base start : ℕ) → NoneFrom (suc start) (e ∷ entries) base → NoneFrom start entries base
none_rest e entries base start f = λ place h l q. f (suc place) (omega arith) (omega arith) q

none_more : (e : Entry) (entries : List Entry) (base start : ℕ) → NoneFrom start entries base → NoneFrom (suc start) (e ∷ entries) base
none_more e entries base start f zero h l q = omega arith
none_more e entries base start f (suc place) h l q = f place (omega arith) (omega arith) q

none_first : (e : Entry) (entries : List Entry) (base : ℕ) → NoneFrom 0 entries base → (e.base ≡ base → ⊥) → NoneFrom 0 (e ∷ entries) base
none_first e entries base f n zero h l q = n q
none_first e entries base f n (suc place) h l q = f place (omega arith) (omega arith) q

pub replayed-none : (entries : List Entry) (m : Amounts) (base : ℕ) → NoneFrom 0 entries base → replayed entries m base ≡ m base
replayed-none [] m base f = refl
replayed-none (e ∷ entries) m base f =
    let rest : NoneFrom 0 entries base = λ place h l q. f (suc place) (omega arith) (omega arith) q in
    replayed-none entries (updated m e.base e.amount) base rest ∙ updated_other m e.base e.amount base (f 0 (omega arith) (omega arith))

pub replayed_last : (entries : List Entry) (m : Amounts) (base place : ℕ) → LastAt entries base place → replayed entries m base ≡ (entry_at entries place).amount
replayed_last [] m base place h = let w = h.within in absurd (omega arith)
replayed_last (e ∷ entries) m base zero h =
    replayed-none entries (updated m e.base e.amount) base (none_rest e entries base 0 h.none_after) ∙ updated-same m e.base e.amount base h.here
replayed_last (e ∷ entries) m base (suc place) h =
    let w = h.within in
    replayed_last entries (updated m e.base e.amount) base place (record { within = omega arith; here = h.here; none_after = none_rest e entries base (suc place) h.none_after })

-- a base has a last entry, or none
last_or_none : (entries : List Entry) (base : ℕ) → NoneFrom 0 entries base ⊎ ((place : ℕ) × LastAt entries base place)
last_or_none [] base = inl (λ place h l q. omega arith)
last_or_none (e ∷ entries) base =
    elim (last_or_none entries base) [
      | inl none ↦ elim (cases_eq e.base base) [
        | inl here ↦ inr (0, record { within = omega arith; here = here; none_after = none_more e entries base 0 none })
        | inr other ↦ inl (none_first e entries base none other)
      ]
      | inr last ↦
          let w = last.1.within in
          inr (suc last.0, record { within = omega arith; here = last.1.here; none_after = none_more e entries base (suc last.0) last.1.none_after })
    ]

pub last_counts : LastCounts
last_counts entries opening base =
    elim (last_or_none entries base) [
      | inl none ↦ inl (none, replayed-none entries opening base none)
      | inr last ↦ inr (last.0, last.1, replayed_last entries opening base last.0 last.1)
    ]

-- a written entry, as it is read from the buffer
pub read_entry : (items : List Entry) (used place : ℕ) (e : Entry) → place < used → used ≤ length items → e ≡ get_or items place e → entry_at (take used items) place ≡ e
read_entry items used place e h w q = get_or-take used items place _ h ∙ sym (get_or_read items place e (omega arith) q _)
