-- The page with the bytes copied behind what is used is the page of the definition.
use Rattle.std.proofs.Common.{◌≡◌, ◌+◌, length, leb, ℕ, ◌∙◌, ap, sym, true, List, arith}
use borrow.Author.Tests.{leb-true}
use borrow.Rule.Slice.PartMut.{put_mid}
use Rattle.program_output.specs.declared.Out.{Out}
use Rattle.program_output.specs.Output.{page_size, append_reply}
use Rattle.program_output.proofs.Placed.{placed}
use Rattle.program_output.proofs.Out.append.Goals as goal

-- the page with so many bytes more
counted : (out : Out) (n : ℕ) (page : List ℕ) → Out
counted out n page = record out { page = page; used = record { 0 = out.used.0 + n } }

appended : (out : Out) (bytes copied : List ℕ) (k : ℕ) → leb (out.used.0 + length bytes) page_size ≡ true → length out.page ≡ page_size → copied ≡ bytes
    → k ≡ length bytes → counted out (length bytes) (put_mid out.used.0 k out.page copied) ≡ append_reply out bytes
unfolding counted
appended out bytes copied k fit long same n =
    rw (fit, same) (ap (counted out (length bytes)) (placed bytes out.page out.used.0 k n (omega (arith, long, leb-true _ _ fit))))

pub returns : goal.returns
unfolding counted
returns c =
    let out = c.args.self.now in
    let bytes = c.args.bytes.now in
    appended out bytes _ _ (sym c.fits.ensures ∙ c.if-not-fits.false) (omega arith) c.copy_from_slice.ensures.after (omega arith)
