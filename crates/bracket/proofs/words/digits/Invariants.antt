use Rattle.std.proofs.Common.{◌≡◌, true, take}
use Rattle.std.specs.List.{list_all}
use Rattle.bracket.specs.Characters.{digit, read_on}
use Rattle.bracket.proofs.words.digits.Given as goal

abbrev pub invariant-loop-byte : goal.invariant-loop-byte
invariant-loop-byte l = record {
  digits : list_all digit (take l.byte-index l.run) ≡ true;
  value : l.value ≡ read_on 0 (take l.byte-index l.run);
}
