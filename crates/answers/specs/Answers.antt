-- What an answer line says: bytes in capital hexadecimal digits, and a line feed.
use Rattle.std.specs.Prelude.{◌≡◌, ℕ, ◌+◌, ◌/◌, ◌%◌, ◌<◌, ◌≤◌, cond, List, [], ◌∷◌, ◌++◌, length, drop, Ok, Err, Result, nat_lt}
use Rattle.refusals.specs.declared.refusal.Refusal.{Refusal}
use Rattle.refusals.specs.declared.refusal.Refusal.TheVariants.{BufferLength}
use Rattle.answers.specs.declared.reply.Reply.{Reply}
use Rattle.answers.specs.declared.reply.Reply.TheVariants.{Done, Amount}
use Rattle.answers.specs.declared.layer.Layer.{Layer}
use Rattle.answers.specs.declared.layer.Layer.TheVariants.{Text, Turn, House}

-- the character of a digit: 0 to 9, then A to F
abbrev pub digit : ℕ → ℕ
digit n = cond (nat_lt n 10) (48 + n) (55 + n)

-- bytes as characters, two digits a byte, the higher first
abbrev pub spelled : List ℕ → List ℕ
spelled [] = []
spelled (byte ∷ bytes) = digit (byte / 16) ∷ (digit (byte % 16) ∷ spelled bytes)

-- a line of bytes: their digits, and a line feed
abbrev pub line_of : List ℕ → List ℕ
line_of bytes = spelled bytes ++ 10 ∷ []

-- a number as four bytes, the highest first
abbrev pub four_bytes : ℕ → List ℕ
four_bytes n = (n / 16777216 % 256) ∷ (n / 65536 % 256) ∷ (n / 256 % 256) ∷ (n % 256) ∷ []

-- what a taken frame's answer holds after its kind and 00
abbrev pub reply_bytes : Reply → List ℕ
reply_bytes Done = []
reply_bytes (Amount n) = four_bytes n

-- the answer to a taken frame of a kind
abbrev pub taken_bytes : ℕ → Reply → List ℕ
taken_bytes kind reply = kind ∷ 0 ∷ reply_bytes reply

-- the number of each layer
abbrev pub layer_number : Layer → ℕ
layer_number Text = 1
layer_number Turn = 2
layer_number House = 3

-- the answer to a refused line: the kind, the number of the cause, the layer
abbrev pub refused_bytes : ℕ → ℕ → Layer → List ℕ
refused_bytes kind number layer = kind ∷ number ∷ layer_number layer ∷ []

-- a line stands at the front of a buffer, and the rest of the buffer is as it was
pub record Fronted (bytes old new : List ℕ) (written : ℕ) : Type 0 where
  pub long : 16 ≤ length old
  pub written_is : written ≡ length (line_of bytes)
  pub buffer : new ≡ line_of bytes ++ drop written old

-- a buffer that is too short stays as it was
pub record Short (old new : List ℕ) (cause : Refusal) : Type 0 where
  pub short : length old < 16
  pub cause_is : cause ≡ BufferLength
  pub buffer : new ≡ old

-- what writing a line of bytes to a buffer does
abbrev pub Writes : List ℕ → List ℕ → List ℕ → Result ℕ Refusal → Type 0
Writes bytes old new (Ok written) = Fronted bytes old new written
Writes bytes old new (Err cause) = Short old new cause
