use Rattle.std.proofs.Common.{◌≡◌, ℕ, ◌+◌, ◌-◌, List, ◌++◌, length, take, vec_items, sym, ap, ◌∙◌, arith}
use lib.Seq.{take-append-add}
use Rattle.sheets.proofs.line_buffer.LineBuffer.append.Goals as goal

fills : (old part : List ℕ) (n : ℕ) → 125 ≡ length old + n → old ++ take n part ≡ take 125 (old ++ part)
fills old part n e = sym (ap (λ m. take m (old ++ part)) e ∙ take-append-add old part n)

pub returns : goal.returns
returns c =
    let ok = c.unwrap.ensures in
    let items : vec_items c.extend_from_slice.new.self ≡ vec_items c.args.self.now.text ++ c.front.result.now = rw ok at c.extend_from_slice.ensures.items in
    let e : 125 ≡ length (vec_items c.args.self.now.text) + (125 - c.len-room.result) = omega (arith, c.args.self.now.text.ok.0, c.args.self.now.few) in
    let f = fills (vec_items c.args.self.now.text) c.args.part.now (125 - c.len-room.result) e in cc
