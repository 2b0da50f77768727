-- A list that is moved: positions counted from another place, as where other words stand before the first.
use Rattle.std.specs.Prelude.{ℕ, ◌+◌, List, map}
use Rattle.chunk.specs.declared.Entry.{Entry}
use Rattle.chunk.specs.Reading.{entry}

-- an entry with its position moved on by n words: header word and mark stay
abbrev pub moved_entry : ℕ → Entry → Entry
moved_entry n e = entry (n + e.position.0) e.header e.end

-- the list with every entry moved so
abbrev pub moved : ℕ → List Entry → List Entry
moved n es = map (moved_entry n) es
