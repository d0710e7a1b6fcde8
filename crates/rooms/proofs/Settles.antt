-- The parts of a settle, joined: what the lists and the table are afterwards is the settled room.
use Rattle.std.proofs.Common.{◌≡◌, ℕ, ◌-◌, true, cond, not, ◌&&◌, List, [], ◌∷◌, ◌++◌, length, get_or, take, drop, is_some, None, Option, sym, ap, ◌∙◌}
use mathlib.Core.Path.{fun_ext}
use Rattle.std.proofs.lemmas.List.{take_rest, drop_at}
use Rattle.std.proofs.lemmas.Bool.{cond-true}
use Rattle.lists.specs.Words.{member, keep}
use Rattle.lists.proofs.Keeps.{keep_same}
use Rattle.batches.specs.declared.outcome.RunResult.{RunResult}
use Rattle.order.specs.Works.{Works, share}
use Rattle.agreement.specs.Rooms.{Room, room_settled, room_settle, ahead_count, thrown_count}
use Rattle.rooms.specs.declared.record.Record.{Record}
use Rattle.rooms.specs.Records.{blank}
use Rattle.rooms.specs.Settles.{ahead_of, would_lose}

-- the part of the settled list that is new
pub new_part : (settled : List ℕ) (before : ℕ) (old moved : List ℕ) → settled ≡ old ++ moved → length old ≡ before → take (length settled - before) (drop before settled) ≡ moved
new_part settled before old moved e l = take_rest settled before ∙ ap (drop before) e ∙ drop_at old moved before l

-- who loses a mark does so by the marks as they were, since naming a serializer leaves them
module _ (w : Works) (t : ℕ) (old named : List Record) (marks : (a : ℕ) → (get_or named a blank).mark ≡ (get_or old a blank).mark) (still : List ℕ) where
  pub losers_are : keep (would_lose w named t) still ≡ keep (λ a. share w a t && is_some (get_or old a blank).mark) still
  losers_are = keep_same (would_lose w named t) _ still (λ a _. ap (λ (m : Option RunResult). share w a t && is_some m) (marks a))

  pub marks-settled : (thrown : List Record) → ((a : ℕ) → (get_or thrown a blank).mark ≡ cond (member a (keep (would_lose w named t) still)) None (get_or named a blank).mark) →
      ◌≡◌ {A = ℕ → Option RunResult} (λ a. (get_or thrown a blank).mark) (λ a. cond (member a (keep (λ a. share w a t && is_some (get_or old a blank).mark) still)) None (get_or old a blank).mark)
  marks-settled thrown h = fun_ext (λ a. h a ∙ ap (λ l. cond (member a l) None (get_or named a blank).mark) losers_are ∙ ap (λ (m : Option RunResult). cond (member a (keep (λ a. share w a t && is_some (get_or old a blank).mark) still)) None m) (marks a))

-- the settled room, from its parts
module _ (w : Works) (k t : ℕ) (waiting settled installed : List ℕ) (old named thrown : List Record) (there : member t waiting ≡ true) where
  abbrev before : Room
  before = record { waiting = waiting; settled = settled; installed = installed; mark = (λ a. (get_or old a blank).mark); serializer = (λ a. (get_or old a blank).serializer) }

  abbrev moved : List ℕ
  moved = ahead_of w k waiting t ++ t ∷ []

  abbrev still : List ℕ
  still = keep (λ b. not (member b moved)) waiting

  pub ahead-counted : length (ahead_of w k waiting t) ≡ ahead_count w k before t
  ahead-counted = sym (cond-true (member t waiting) (length (ahead_of w k waiting t)) 0 there)

  module _ (marks : (a : ℕ) → (get_or named a blank).mark ≡ (get_or old a blank).mark) where
    pub thrown-counted : length (keep (would_lose w named t) still) ≡ thrown_count w k before t
    thrown-counted = ap length (losers_are w t old named marks still) ∙ sym (cond-true (member t waiting) _ 0 there)

    pub settled_is : (new-waiting new-settled : List ℕ) → new-waiting ≡ still → new-settled ≡ settled ++ moved →
        ((a : ℕ) → (get_or named a blank).serializer ≡ cond (member a moved) t (get_or old a blank).serializer) →
        ((a : ℕ) → (get_or thrown a blank).mark ≡ cond (member a (keep (would_lose w named t) still)) None (get_or named a blank).mark) →
        ((a : ℕ) → (get_or thrown a blank).serializer ≡ (get_or named a blank).serializer) →
        ◌≡◌ {A = Room} (record { waiting = new-waiting; settled = new-settled; installed = installed; mark = (λ a. (get_or thrown a blank).mark); serializer = (λ a. (get_or thrown a blank).serializer) }) (room_settle w k before t)
    settled_is new-waiting new-settled ew es names lost kept =
        let m = marks-settled w t old named marks still thrown lost in
        let n : ◌≡◌ {A = ℕ → ℕ} (λ a. (get_or thrown a blank).serializer) (λ a. cond (member a moved) t (get_or old a blank).serializer) = fun_ext (λ a. kept a ∙ names a) in
        (λ i. record { waiting = ew i; settled = es i; installed = installed; mark = m i; serializer = n i })
        ∙ sym (cond-true (member t waiting) (room_settled w k before t) before there)
