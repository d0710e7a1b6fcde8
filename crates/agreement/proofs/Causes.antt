-- A call is taken exactly where each of its tests comes out false.
use Rattle.std.proofs.Common.{◌≡◌, ℕ, ◌<◌, Bool, true, false, cond, not, leb, Some, None, Option, inl, inr, arith}
use Rattle.std.proofs.lemmas.Bool.{cases_Bool, leb-false, lt-leb, not-false}
use Rattle.refusals.specs.declared.refusal.Refusal.{Refusal}
use Rattle.plan.specs.Plan.{Plan}
use Rattle.agreement.specs.Calls.{at_room}

pub some-none : {X Y : Type 0} (x : X) → Some x ≡ None → Y
some-none x e = let z : ◌≡◌ {A = ℕ} 0 1 = cc in absurd (omega arith)

-- the test of the first cause, and what is left
pub passed : (t : Bool) (e : Refusal) (rest : Option Refusal) → cond t (Some e) rest ≡ None → (t ≡ false) × (rest ≡ None)
passed t e rest h = elim (cases_Bool t) [ inl y ↦ some-none e (rw y at h) | inr n ↦ (n, rw n at h) ]

-- a test that is denied
pub passed_not : (t : Bool) (e : Refusal) (rest : Option Refusal) → cond (not t) (Some e) rest ≡ None → (t ≡ true) × (rest ≡ None)
passed_not t e rest h = let z = passed (not t) e rest h in (not-false t z.0, z.1)

pub pass : (t : Bool) (e : Refusal) (rest : Option Refusal) → t ≡ false → rest ≡ None → cond t (Some e) rest ≡ None
pass t e rest f h = rw f h

pub pass_not : (t : Bool) (e : Refusal) (rest : Option Refusal) → t ≡ true → rest ≡ None → cond (not t) (Some e) rest ≡ None
pass_not t e rest y h = rw y h

pub room_passed : (plan : Plan) (k : ℕ) (cause : Option Refusal) → at_room plan k cause ≡ None → (k < plan.rooms) × (cause ≡ None)
room_passed plan k cause h = let z = passed (leb plan.rooms k) _ cause h in (leb-false _ _ z.0, z.1)

pub room_pass : (plan : Plan) (k : ℕ) (cause : Option Refusal) → k < plan.rooms → cause ≡ None → at_room plan k cause ≡ None
room_pass plan k cause l h = let f : leb plan.rooms k ≡ false = lt-leb _ _ l in rw f h
