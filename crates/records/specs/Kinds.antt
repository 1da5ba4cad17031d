-- The kinds of value that the code names, and the words that stand for them in records.
use Rattle.std.specs.Prelude.{ℕ, cond, eqb, Option, Some, None}
use Rattle.records.specs.Memory.{a_function, a_constructor, a_number}
use Rattle.records.specs.declared.Kind.{Kind}
use Rattle.records.specs.declared.Kind.TheVariants.{Function, Constructor, Number}

abbrev pub word_of : Kind → ℕ
word_of Function = a_function
word_of Constructor = a_constructor
word_of Number = a_number

abbrev pub kind_of : ℕ → Option Kind
kind_of w = cond (eqb w a_function) (Some Function) (cond (eqb w a_constructor) (Some Constructor) (cond (eqb w a_number) (Some Number) None))
