-- Each word of an answer is below 65,536, so that the four words of the number are its refusal and its parts; and the same of a command's fields.
use mathlib.Core.Path.{◌≡◌, refl}
use Prim.Native.Nat.{ℕ}
use native.Mathlib.Omega.{arith}
use Rattle.command.specs.declared.Fields.{Fields}
use Rattle.exports.specs.Answer.{in_words, packed, unpacked, Says, Wide, WordsSayTheAnswer}

pub says : (v a b c : ℕ) → Says v a b c (in_words v a b c)
unfolding in_words
says v a b c = record { refusal = omega arith; first = omega arith; second = omega arith; third = omega arith }

given_back : (f : Fields) → Wide f → unpacked (packed f) ≡ f
unfolding packed unpacked
given_back f w =
    let s : (unpacked (packed f)).sequence ≡ f.sequence = omega arith in
    let t : (unpacked (packed f)).command_type ≡ f.command_type = omega arith in
    let q : (unpacked (packed f)).qualifier ≡ f.qualifier = omega arith in
    let a : (unpacked (packed f)).address ≡ f.address = omega arith in
    let d : (unpacked (packed f)).«data» ≡ f.«data» = omega arith in
    λ i. record { sequence = s i; command_type = t i; qualifier = q i; address = a i; «data» = d i }

pub words-say-the-answer : WordsSayTheAnswer
unfolding in_words packed
words-say-the-answer = record { answer = says; fields = given_back; frame = refl; patch = refl }
