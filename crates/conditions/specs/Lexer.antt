-- lexed o: what a step over a gathered line answers, where o is its next token
use Rattle.std.specs.Prelude.{Some, None, Ok, Err, Option, Result}
use Rattle.tokens.specs.declared.token.Token.{Token}
use Rattle.tokens.specs.declared.fault.StepExit.{StepExit}
use Rattle.tokens.specs.declared.fault.StepExit.TheVariants.{Finished}

abbrev pub lexed : Option Token → Result Token StepExit
lexed (Some x) = Ok x
lexed None = Err Finished
