-- The table of records with one record changed.
use Rattle.std.proofs.Common.{◌≡◌, ℕ, ◌<◌, List, length, get_or, set, Option, sym, ap, ◌∙◌, inl, inr}
use mathlib.Core.Path.{fun_ext}
use Rattle.std.proofs.lemmas.List.{get_or-set_same, get_or-set_other}
use Rattle.std.proofs.lemmas.Bool.{cases_eq}
use Rattle.lists.specs.Words.{updated}
use Rattle.lists.proofs.Updates.{updated-here, updated-there}
use Rattle.batches.specs.declared.outcome.RunResult.{RunResult}
use Rattle.rooms.specs.declared.record.Record.{Record}
use Rattle.rooms.specs.Records.{blank}

-- a record that was read at its place gets another mark
module _ (table : List Record) (b : ℕ) (h : b < length table) (x : Record) (is : x ≡ get_or table b blank) (mark : Option RunResult) where
  abbrev marked : List Record
  marked = set table b (record { mark = mark; serializer = x.serializer })

  pub marks-after : ◌≡◌ {A = ℕ → Option RunResult} (λ a. (get_or (set table b (record { mark = mark; serializer = x.serializer })) a blank).mark) (updated (λ a. (get_or table a blank).mark) b mark)
  marks-after = fun_ext (λ a. elim (cases_eq a b) [
    | inl e ↦ ap (λ n. (get_or marked n blank).mark) e ∙ ap (λ (r : Record). r.mark) (get_or-set_same table b _ blank h) ∙ sym (ap (updated (λ a. (get_or table a blank).mark) b mark) e ∙ updated-here (λ a. (get_or table a blank).mark) b mark)
    | inr n ↦ ap (λ (r : Record). r.mark) (get_or-set_other table b a _ blank n) ∙ sym (updated-there (λ a. (get_or table a blank).mark) b mark a n)
  ])

  pub names_after : ◌≡◌ {A = ℕ → ℕ} (λ a. (get_or (set table b (record { mark = mark; serializer = x.serializer })) a blank).serializer) (λ a. (get_or table a blank).serializer)
  names_after = fun_ext (λ a. elim (cases_eq a b) [
    | inl e ↦ ap (λ n. (get_or marked n blank).serializer) e ∙ ap (λ (r : Record). r.serializer) (get_or-set_same table b _ blank h) ∙ ap (λ (r : Record). r.serializer) is ∙ sym (ap (λ n. (get_or table n blank).serializer) e)
    | inr n ↦ ap (λ (r : Record). r.serializer) (get_or-set_other table b a _ blank n)
  ])
