-- number e: the number of a fault; layered l: of a layer; refused r: of a refusal outside a run; lexical e: a lexer's error as a run raises it
-- raised k e l: the fault e at the place l, found by the layer k; unexpected k x: of a token that must not stand there
-- ended f: a step that ends with the fault f; closed c: one that meets the closing of a source; starved: the refusal for want of memory
-- fault_text f, refusal_text r: what a listing says of a fault, of a refusal
use Rattle.std.specs.Prelude.{ℕ, List, ◌++◌, codes, None}
use Rattle.std.specs.Fmt.{decimal}
use Rattle.tokens.specs.declared.location.Location.{Location}
use Rattle.tokens.specs.declared.token.Token.{Token}
use Rattle.tokens.specs.declared.fault.Fault.{Fault}
use Rattle.tokens.specs.declared.fault.StepExit.{StepExit}
use Rattle.tokens.specs.declared.fault.StepExit.TheVariants.{Error, Finished}
use Rattle.tokens.specs.declared.lexer.Closing.{Closing}
use Rattle.tokens.specs.declared.lexer.Closing.TheVariants as closing
use Rattle.tokens.specs.declared.fault.PreprocessorError.{PreprocessorError}
use Rattle.tokens.specs.declared.fault.PreprocessorError.TheVariants.{IntegerOverflow, FloatParsingError, UnexpectedCharacter, UnexpectedToken, UnexpectedHash, UnexpectedNewLine, UnexpectedEndOfInput, TooFewDefineArguments, TooManyDefineArguments, ErrorDirective, DuplicateParameter, UnknownDirective, DefineRedefined, ElifOutsideOfBlock, ElseOutsideOfBlock, EndifOutsideOfBlock, ElifAfterElse, MoreThanOneElse, UnfinishedBlock, LineOverflow, NotSupported16BitLiteral, NotSupported64BitLiteral, MacroNotDefined, RecursionLimitReached, DivisionByZero, TooManyDefines, TooManyParameters, KeptTokensFull, WorkingTokensFull, TooManyBlocks, TooManyLevels, ConditionTooDeep, MovesSpent}
use Rattle.tokens.specs.declared.fault.Layer.{Layer}
use Rattle.tokens.specs.declared.fault.Layer.TheVariants.{Source, Directives, Conditions, Expansion}
use Rattle.tokens.specs.declared.fault.Refusal.{Refusal}
use Rattle.tokens.specs.declared.fault.Refusal.TheVariants.{NameLength, NamesFull, BadFile, Memory}
use Rattle.tokens.specs.declared.lexer.LexerError.{LexerError}
use Rattle.tokens.specs.declared.lexer.LexerError.TheVariants as lexer

abbrev pub number : PreprocessorError → ℕ
number IntegerOverflow = 1
number FloatParsingError = 2
number UnexpectedCharacter = 3
number (UnexpectedToken t) = 4
number UnexpectedHash = 5
number UnexpectedNewLine = 6
number UnexpectedEndOfInput = 7
number TooFewDefineArguments = 8
number TooManyDefineArguments = 9
number ErrorDirective = 10
number DuplicateParameter = 11
number UnknownDirective = 12
number DefineRedefined = 13
number ElifOutsideOfBlock = 14
number ElseOutsideOfBlock = 15
number EndifOutsideOfBlock = 16
number ElifAfterElse = 17
number MoreThanOneElse = 18
number UnfinishedBlock = 19
number LineOverflow = 20
number NotSupported16BitLiteral = 21
number NotSupported64BitLiteral = 22
number MacroNotDefined = 23
number RecursionLimitReached = 24
number DivisionByZero = 25
number TooManyDefines = 33
number TooManyParameters = 34
number KeptTokensFull = 35
number WorkingTokensFull = 36
number TooManyBlocks = 37
number TooManyLevels = 38
number ConditionTooDeep = 39
number MovesSpent = 40

abbrev pub layered : Layer → ℕ
layered Source = 1
layered Directives = 2
layered Conditions = 3
layered Expansion = 4

abbrev pub refused : Refusal → ℕ
refused NameLength = 31
refused NamesFull = 32
refused BadFile = 41
refused Memory = 0

abbrev pub lexical : LexerError → PreprocessorError
lexical lexer.IntegerOverflow = IntegerOverflow
lexical lexer.FloatParsingError = FloatParsingError
lexical lexer.UnexpectedCharacter = UnexpectedCharacter
lexical lexer.NotSupported16BitLiteral = NotSupported16BitLiteral
lexical lexer.NotSupported64BitLiteral = NotSupported64BitLiteral

abbrev pub raised : Layer → PreprocessorError → Location → Fault
raised k e l = record { error = e; location = l; layer = k; directive = None }

abbrev pub unexpected : Layer → Token → Fault
unexpected k x = raised k (UnexpectedToken x.value) x.location

abbrev pub ended : Fault → StepExit
ended f = Error f

abbrev pub closed : Closing → StepExit
closed closing.End = Finished
closed (closing.Fault e l) = ended (raised Source (lexical e) l)

abbrev pub starved : Refusal
starved = Memory

abbrev pub fault_text : Fault → List ℕ
fault_text f = codes "fault " ++ (decimal (number f.error) ++ (codes " " ++ (decimal (layered f.layer) ++ (codes " " ++ decimal f.location.line))))

abbrev pub refusal_text : Refusal → List ℕ
refusal_text r = codes "fault " ++ decimal (refused r)
