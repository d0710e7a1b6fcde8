-- What the rule of a house's wire has a say in, by a call and its answer.
use Rattle.std.specs.Prelude.{ℕ}
use Rattle.wire.specs.Choices.{Choice, numbered, told, wished, nothing}
use Rattle.agreement.specs.Calls.{Call, post, number, hear, settle, run, release, install, wish, amount, pick, Answer, refused, done, batch, settled, ran, amount_is, picked}

-- the batch of an answer was chosen; a refused call chooses nothing
abbrev pub chosen : (ℕ → Choice) → Answer → Choice
chosen choice (refused e) = nothing
chosen choice done = nothing
chosen choice (batch b) = choice b
chosen choice (settled b ahead thrown) = nothing
chosen choice (ran outcome step) = nothing
chosen choice (amount_is n) = nothing
chosen choice (picked o) = nothing

-- number and hear choose the batch that they answer, and a wish is one; no other call minds the rule
abbrev pub choice_of : Call → Answer → Choice
choice_of (post room b) answer = nothing
choice_of number answer = chosen numbered answer
choice_of (hear room) answer = chosen (told room) answer
choice_of (settle room) answer = nothing
choice_of (run room b) answer = nothing
choice_of (release room b) answer = nothing
choice_of (install room sender) answer = nothing
choice_of (wish b) answer = wished b
choice_of (amount room base) answer = nothing
choice_of (pick room) answer = nothing
