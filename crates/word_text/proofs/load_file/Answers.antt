-- A file that can't be opened leaves what the empty text does, nothing.
use Rattle.std.proofs.Common.{[]}
use Rattle.word_text.proofs.Places.{load_nothing}
use Rattle.word_text.proofs.load_file.Goals as goal

pub returns-in_default-clause-of_some_text : goal.returns-in_default-clause-of_some_text
returns-in_default-clause-of_some_text g c = record { text = []; is = load_nothing _ _ }
