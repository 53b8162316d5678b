-- What stands past the end of an array of hops.
use mathlib.Core.List.{[]}
use Rattle.envelope.specs.declared.CallText.{CallText}

abbrev pub no_call : CallText
no_call = record { len = 0; bytes = [] }
