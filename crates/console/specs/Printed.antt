-- The bytes of each answer. Assumes nothing.
use Rattle.std.specs.Prelude.{ℕ, List, ◌++◌, Ok, Err, string_bytes, codes, decimal, Result}
use Rattle.refusal.specs.Numbers.{number_or_0}
use Rattle.refusal.specs.Printed.{printed_refusal}
use Rattle.console.specs.declared.answer.Answer.{Answer}
use Rattle.console.specs.declared.answer.Answer.TheVariants.{Field, Symbol, Chain, Code, Scratch, Text, Failed, NotUnderstood}
use Rattle.console.specs.declared.answer.Failure.{Failure}
use Rattle.console.specs.declared.answer.Failure.TheVariants.{NotYet, Refused}
use Rattle.console.specs.declared.answer.Missing.{Missing}

abbrev pub printed_missing : Missing → List ℕ
printed_missing Missing.Field = codes "field"
printed_missing Missing.Chain = codes "chain"
printed_missing Missing.Code = codes "code"

abbrev pub printed_failure : Failure → List ℕ
printed_failure (NotYet m) = codes "no " ++ (printed_missing m ++ codes " yet")
printed_failure (Refused r) = printed_refusal r

abbrev pub printed : Answer → List ℕ
printed (Field q) = codes "field q " ++ decimal q
printed (Symbol a) = decimal a
printed (Chain f) = codes "chain flaw " ++ decimal (number_or_0 f)
printed (Code f) = codes "code flaw " ++ decimal (number_or_0 f)
printed (Scratch n) = codes "scratch " ++ decimal n
printed (Text t) = string_bytes t
printed (Failed f) = printed_failure f
printed NotUnderstood = codes "not understood"

abbrev pub replied : Result Answer Failure → Answer
replied (Ok a) = a
replied (Err e) = Failed e
