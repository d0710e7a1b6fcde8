-- A list of calls made one by one: each call made after the ones before it is one more of the list, and what all of them leave,
-- from a house just opened, keeps the promise.
use Rattle.std.proofs.Common.{◌≡◌, ℕ, zero, suc, ◌+◌, ◌<◌, List, [], ◌∷◌, ◌++◌, length, take, drop, sym, refl, ap, ◌∙◌, subst, append_assoc, append-nil, add-one, arith, length-append, length-drop}
use Rattle.std.proofs.lemmas.List.{take_all}
use Rattle.agreement.specs.Houses.{Given}
use Rattle.agreement.specs.Calls.{Call, Answer}
use Rattle.agreement.proofs.Kept.{promise-kept}
use Rattle.house.specs.declared.call.Call.{Call as CodeCall}
use Rattle.house.specs.declared.call.Answer.{Answer as CodeAnswer}
use Rattle.house.specs.Views.{Parts, view, Held, Steps}
use Rattle.house.specs.Listing.{call_of, answer_of, listed}
use Rattle.house.specs.Performing.{MakesAll, Promised}

listed-push : (calls : List CodeCall) (answers : List CodeAnswer) (c : CodeCall) (a : CodeAnswer) → length answers ≡ length calls →
    listed (calls ++ c ∷ []) (answers ++ a ∷ []) ≡ listed calls answers ++ (call_of c, answer_of a) ∷ []
listed-push [] [] c a h = refl
listed-push [] (y ∷ answers) c a h = absurd (omega (arith, h))
listed-push (x ∷ calls) [] c a h = absurd (omega (arith, h))
listed-push (x ∷ calls) (y ∷ answers) c a h = ap (λ (r : List (Call × Answer)). (call_of x, answer_of y) ∷ r) (listed-push calls answers c a (omega (arith, h)))

pub none_made : (p : Parts) → MakesAll p [] [] p
none_made p = record { count = refl; held = λ g before h. subst (λ (l : List (Call × Answer)). Held g l p) (sym (append-nil before)) h }

pub one_more_made : (p m q : Parts) (calls : List CodeCall) (answers : List CodeAnswer) (c : CodeCall) (a : CodeAnswer) → MakesAll p calls answers m → Steps m (call_of c) (answer_of a) q → MakesAll p (calls ++ c ∷ []) (answers ++ a ∷ []) q
one_more_made p m q calls answers c a made step = record {
  count = length-append answers (a ∷ []) ∙ ap (λ n. n + 1) made.count ∙ sym (length-append calls (c ∷ []));
  held = λ g before h.
      let all = append_assoc before (listed calls answers) ((call_of c, answer_of a) ∷ []) ∙ ap (λ (l : List (Call × Answer)). before ++ l) (sym (listed-push calls answers c a made.count)) in
      subst (λ (l : List (Call × Answer)). Held g l q) all (step g (before ++ listed calls answers) (made.held g before h)).held;
}

-- the calls that are left of a list, with the first one
module _ {X : Type 0} where
  next-taken : (l : List X) (n : ℕ) (x : X) (rest : List X) → drop n l ≡ x ∷ rest → (take (suc n) l ≡ take n l ++ x ∷ []) × (drop (suc n) l ≡ rest) × (n < length l)
  next-taken [] zero x rest h = let z : ◌≡◌ {A = ℕ} 0 1 = cc in absurd (omega arith)
  next-taken [] (suc n) x rest h = let z : ◌≡◌ {A = ℕ} 0 1 = cc in absurd (omega arith)
  next-taken (y ∷ l) zero x rest h = (cc, cc, omega arith)
  next-taken (y ∷ l) (suc n) x rest h = let z = next-taken l n x rest h in (ap (λ (r : List X). y ∷ r) z.0, z.1, omega (arith, z.2))

  pub one_taken : (l : List X) (n : ℕ) (x : X) (rest : List X) → drop n l ≡ x ∷ rest → (take (n + 1) l ≡ take n l ++ x ∷ []) × (drop (n + 1) l ≡ rest) × (n < length l)
  one_taken l n x rest h = rw add-one (next-taken l n x rest h)

  -- and where none is left
  pub all-taken : (l rest : List X) (n : ℕ) → drop n l ≡ rest → length rest ≡ 0 → take n l ≡ l
  all-taken l rest n h e = let z = length-drop n l in take_all n l (omega (arith, z, ap length h, e))

pub promised : (g : Given) (calls : List CodeCall) (answers : List CodeAnswer) (p q : Parts) → Held g [] p → MakesAll p calls answers q → Promised g calls answers q
promised g calls answers p q held made = let h = made.held g [] held in
    record { count = made.count; plan = h.plan; performed = h.performed; promise = promise-kept g (listed calls answers) (view g q) h.performed }
