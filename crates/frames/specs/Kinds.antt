-- The kinds of frames. A frame is written in hexadecimal digits: the two of its kind's number, then its fields, each byte
-- two digits, highest first, and nothing after.
use Rattle.std.specs.Prelude.{◌≡◌, ◌≢◌, ℕ, List, [], ◌∷◌, Result, MatchResult, slice_index}
use Rattle.frames.specs.declared.frame.Frame.{Frame}
use Rattle.frames.specs.declared.frame.Frame.TheVariants.{Begin, PlanLine, Opening, Seal, Amount}
use Rattle.frames.specs.declared.kind.FrameKind.{FrameKind}
use Rattle.frames.specs.declared.kind.FrameKind.TheVariants.{Begin as BeginKind, PlanLine as PlanLineKind, Opening as OpeningKind, Seal as SealKind, Amount as AmountKind}
use Rattle.frames.specs.declared.kind.UnknownKind.{UnknownKind}

-- a kind: its number, the widths of its fields in bytes, and the frame that the fields' values make
pub record Kind : Type 0 where
  pub number : ℕ
  pub widths : List ℕ
  pub frame : List ℕ → Frame

abbrev kind : ℕ → List ℕ → (List ℕ → Frame) → Kind
kind n ws f = record { number = n; widths = ws; frame = f }

-- a frame without fields, and one with two
abbrev none : Frame → List ℕ → Frame
none f values = f

abbrev two : (ℕ → ℕ → Frame) → List ℕ → Frame
two f values = f (slice_index values 0) (slice_index values 1)

-- the table of the kinds
abbrev pub kinds : List Kind
kinds =
    kind 0x01 (1 ∷ 1 ∷ []) (two Begin)  -- rooms, wire
    ∷ kind 0x02 (1 ∷ 4 ∷ []) (two PlanLine)  -- room, set
    ∷ kind 0x03 (1 ∷ 4 ∷ []) (two Opening)  -- base, amount
    ∷ kind 0x04 [] (none Seal)
    ∷ kind 0x20 (1 ∷ 1 ∷ []) (two Amount)  -- room, base
    ∷ []

-- the number of each kind
abbrev pub kind_number : FrameKind → ℕ
kind_number BeginKind = 0x01
kind_number PlanLineKind = 0x02
kind_number OpeningKind = 0x03
kind_number SealKind = 0x04
kind_number AmountKind = 0x20

-- the kind with a number, or that number where no kind has it
abbrev pub HasKind : ℕ → Result FrameKind UnknownKind → Type 0
HasKind number r =
    MatchResult r (λ k. kind_number k ≡ number) (λ e. (e.0 ≡ number) × ((k : FrameKind) → kind_number k ≢ number))

-- the kind of a frame
abbrev pub frame_kind : Frame → FrameKind
frame_kind (Begin rooms wire) = BeginKind
frame_kind (PlanLine room set) = PlanLineKind
frame_kind (Opening base amount) = OpeningKind
frame_kind Seal = SealKind
frame_kind (Amount room base) = AmountKind

-- the number of a frame's kind
abbrev pub number_of : Frame → ℕ
number_of f = kind_number (frame_kind f)
