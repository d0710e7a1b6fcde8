-- The calls and answers of the code as those of the definitions, and a list of calls with its answers.
use Rattle.std.specs.Prelude.{List, [], ◌∷◌}
use Rattle.batches.specs.Sealed.{batch_of}
use Rattle.agreement.specs.Calls.{Call, post, number, hear, settle, run, release, install, wish, amount, pick, Answer, refused, done, batch, settled, ran, amount_is, picked}
use Rattle.house.specs.declared.call.Call.{Call as CodeCall}
use Rattle.house.specs.declared.call.Call.TheVariants.{Post, Number, Hear, Settle, Run, Release, Install, Wish, Amount, Pick}
use Rattle.house.specs.declared.call.Answer.{Answer as CodeAnswer}
use Rattle.house.specs.declared.call.Answer.TheVariants.{Refused, Done, Batch, Settled, Ran, Picked}
use Rattle.house.specs.declared.call.Answer.TheVariants as tell

abbrev pub call_of : CodeCall → Call
call_of (Post room b) = post room (batch_of b)
call_of Number = number
call_of (Hear room) = hear room
call_of (Settle room) = settle room
call_of (Run room b) = run room b
call_of (Release room b) = release room b
call_of (Install room sender) = install room sender
call_of (Wish b) = wish b
call_of (Amount room base) = amount room base
call_of (Pick room) = pick room

abbrev pub answer_of : CodeAnswer → Answer
answer_of (Refused e) = refused e
answer_of Done = done
answer_of (Batch b) = batch b
answer_of (Settled b ahead thrown) = settled b ahead thrown
answer_of (Ran outcome step) = ran outcome step
answer_of (tell.Amount n) = amount_is n
answer_of (Picked o) = picked o

-- each call with its answer
abbrev pub listed : List CodeCall → List CodeAnswer → List (Call × Answer)
listed [] answers = []
listed (c ∷ calls) [] = []
listed (c ∷ calls) (a ∷ answers) = (call_of c, answer_of a) ∷ listed calls answers

-- where the call was refused, this is unchanged
abbrev pub SameIfRefused : Answer → Type 0 → Type 0
SameIfRefused (refused e) Same = Same
SameIfRefused done Same = Unit {0}
SameIfRefused (batch b) Same = Unit {0}
SameIfRefused (settled b ahead thrown) Same = Unit {0}
SameIfRefused (ran outcome step) Same = Unit {0}
SameIfRefused (amount_is n) Same = Unit {0}
SameIfRefused (picked o) Same = Unit {0}
