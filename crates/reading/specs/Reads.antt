-- told r: what reading a source answers, as a step
use Rattle.std.specs.Prelude.{Ok, Err, Result}
use Rattle.tokens.specs.declared.lexer.LexerToken.{LexerToken}
use Rattle.tokens.specs.declared.lexer.Closing.{Closing}
use Rattle.tokens.specs.declared.fault.StepExit.{StepExit}
use Rattle.tokens.specs.Faults.{closed}

abbrev pub told : Result LexerToken Closing → Result LexerToken StepExit
told (Ok x) = Ok x
told (Err c) = Err (closed c)
