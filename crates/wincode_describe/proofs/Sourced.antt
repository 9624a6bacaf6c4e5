-- What is said of what a reader has, where that comes of a source.
use Rattle.std.proofs.Common.{inr, List, [], Bool, false, Result, Ok, Err, Option, None, Some}
use Rattle.std.specs.Prelude.{IfOk}
use Rattle.wincode_io.specs.Readers.{ReaderState}
use Rattle.wincode_io.specs.Sources.{SourceState}
use Rattle.wincode_io.specs.Streams.{streaming}
use Rattle.wincode_base.specs.declared.error.ReadError.{ReadError}
use Rattle.wincode_describe.specs.Explained.{ExplainsRead, ExplainsSource, SaysRead, SaysSource}
use Rattle.wincode_describe.specs.Parts.{Part}
use Rattle.wincode_describe.specs.declared.described.Described.{Described}

source_explains : (d : Described) (s : SourceState) (new : ReaderState) (parts : List Part) (refused : Option ReadError)
    → ExplainsRead d (streaming 0 [] false s) new parts refused → ExplainsSource d s parts refused
source_explains d s new parts None x = (x.0, λ t. (new.rest, x.1.found t))
source_explains d s new parts (Some e) x = (x.0, inr (new, x.1))

pub source_says : {E : Type 0} (d : Described) (s : SourceState) (new : ReaderState) (r : Result Bool E) → IfOk r (SaysRead d (streaming 0 [] false s) new)
    → IfOk r (SaysSource d s)
source_says d s new (Ok whole) x = (x.0, x.1, source_explains d s new x.0 x.1 x.2, x.3)
source_says d s new (Err e) x = tt
