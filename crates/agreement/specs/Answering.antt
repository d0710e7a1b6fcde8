-- Every call has exactly one kind of answer: the refusal where a cause holds, with nothing changed, and else the kind of
-- its call.
use Rattle.std.specs.Prelude.{◌≡◌, ℕ, true, Some, None}
use Rattle.refusals.specs.declared.refusal.Refusal.{Refusal}
use Rattle.batches.specs.Batches.{Batch, batch_right}
use Rattle.agreement.specs.Houses.{Given, House}
use Rattle.agreement.specs.Calls.{Call, post, number, hear, settle, pick, run, release, install, wish, amount, Answer, refused, done, batch, settled, ran, amount_is, picked, cause, Answers}

-- the kinds of answers
pub data Kind : Type 0 where
  a-refusal nothing-more a-batch a-settling a-run an-amount a-pick : Kind

-- the kind of an answer
abbrev pub kind_of : Answer → Kind
kind_of (refused e) = a-refusal
kind_of done = nothing-more
kind_of (batch b) = a-batch
kind_of (settled b ahead thrown) = a-settling
kind_of (ran outcome step) = a-run
kind_of (amount_is grams) = an-amount
kind_of (picked o) = a-pick

-- the kind of answer of a call that is taken
abbrev pub kind_taken : Call → Kind
kind_taken (post room b) = a-batch
kind_taken number = a-batch
kind_taken (hear k) = a-batch
kind_taken (settle k) = a-settling
kind_taken (pick k) = a-pick
kind_taken (run k b) = a-run
kind_taken (release k b) = nothing-more
kind_taken (install k m) = a-batch
kind_taken (wish b) = nothing-more
kind_taken (amount k x) = an-amount

-- a batch that is posted is sealed
abbrev pub Sealed : Call → Type 0
Sealed c = (room : ℕ) (b : Batch) → c ≡ post room b → batch_right b ≡ true

-- a call is answered
pub record Answered (g : Given) (h : House) (c : Call) : Type 0 where
  -- somehow
  pub some : Sealed c → (a : Answer) × (h' : House) × Answers g h c a h'
  -- where a cause holds, by that refusal alone, and nothing changes
  pub refusal : (a : Answer) (h' : House) (e : Refusal) → Answers g h c a h' → cause g h c ≡ Some e → (a ≡ refused e) × (h' ≡ h)
  -- and else as such a call is
  pub taken : (a : Answer) (h' : House) → Answers g h c a h' → cause g h c ≡ None → kind_of a ≡ kind_taken c
