-- The numbers of refusals of wanted codes and of their words, and the texts of the first, this project's own.
use Rattle.std.specs.Prelude.{ℕ, List, codes}
use Rattle.sfnt_bytes.specs.Text.{no_memory_text}
use Rattle.sfnt_bytes.specs.declared.numbers.TheConstants as numbers
use Rattle.codes.specs.declared.wanted.WantedError.{WantedError}
use Rattle.codes.specs.declared.wanted.WantedError.TheVariants.{BadRange, NoMemory}
use Rattle.codes.specs.declared.word.WordError.{WordError}
use Rattle.codes.specs.declared.word.WordError.TheVariants.{BadWord, BadRange as BadRangeOfWord}

-- the text of a refusal of a set
abbrev pub wanted_error_text : WantedError → List ℕ
wanted_error_text BadRange = codes "bad range"
wanted_error_text NoMemory = no_memory_text

-- its number
abbrev pub wanted_error_number : WantedError → ℕ
wanted_error_number BadRange = numbers.BAD_RANGE
wanted_error_number NoMemory = numbers.NO_MEMORY

-- the number of a refusal of a word
abbrev pub word_error_number : WordError → ℕ
word_error_number BadWord = 26
word_error_number BadRangeOfWord = numbers.BAD_RANGE
