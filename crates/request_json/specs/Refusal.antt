-- Why a line is refused.
use Rattle.std.specs.Prelude.{Option, None, Some}
use Rattle.tao_base.specs.declared.data.DataRefusal.{DataRefusal}
use Rattle.tao_base.specs.declared.data.DataRefusal.TheVariants as of_data
use Rattle.request_json.specs.declared.refusal.LineRefusal.{LineRefusal}
use Rattle.request_json.specs.declared.refusal.LineRefusal.TheVariants.{BadLine, TooLarge, OutOfMemory}

-- why data is refused is why the line is
abbrev pub line_refusal : DataRefusal → LineRefusal
line_refusal (of_data.TooLarge bytes pairs) = TooLarge bytes pairs
line_refusal of_data.OutOfMemory = OutOfMemory

-- the refusal, unless there was no memory
abbrev pub unless_memory : LineRefusal → Option LineRefusal
unless_memory (BadLine field) = Some (BadLine field)
unless_memory (TooLarge bytes pairs) = Some (TooLarge bytes pairs)
unless_memory OutOfMemory = None
