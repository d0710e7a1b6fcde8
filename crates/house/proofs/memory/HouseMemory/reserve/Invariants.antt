use Rattle.std.proofs.Common.{◌≡◌, ◌≤◌, vec_len, vec_capacity}
use Rattle.house.proofs.memory.HouseMemory.reserve.Given as goal

abbrev pub invariant-loop : goal.invariant-loop
invariant-loop l = (vec_len l.memories ≡ l.counter) × (8 ≤ vec_capacity l.memories)
