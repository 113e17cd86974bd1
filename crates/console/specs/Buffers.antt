-- What a line buffer keeps.
use Rattle.std.specs.Prelude.{ℕ, List}
use Rattle.console.specs.declared.buffer.LineBuffer.{LineBuffer}

abbrev pub kept_in : LineBuffer → List ℕ
kept_in buffer = buffer.bytes.items
