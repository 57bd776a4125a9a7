-- What the words of the command line ask for.
use Rattle.std.specs.Prelude.{◌&&◌, ℕ, Bool, true, false, not, if◌then◌else◌, nat_le, List, Option, Result, Ok, Err, codes, option_map, unwrap_or}
use Rattle.std.specs.List.{list_all}
use Rattle.std.specs.Option.{option_map_or}
use Rattle.std.specs.Char.{is_ascii_digit}
use Rattle.std.specs.Str.{bytes_eq}
use Rattle.std.specs.Str.Parse.{digits_value}
use Rattle.clap.specs.Walk.{is_empty}
use Rattle.clap.specs.Words.{Row, Text, fault_of, first_of, matches_of}
use Rattle.dactl_settings.specs.Command.{command, options}
use Rattle.dactl_settings.specs.declared.settings.Settings.{Settings}
use Rattle.dactl_settings.specs.declared.fault.UsageFault.{UsageFault}
use Rattle.dactl_settings.specs.declared.fault.UsageFault.TheVariants.{Words, Number, Both}

-- the text is one decimal digit or more, and their number is from 1 to the greatest
abbrev pub is_number : ℕ → Text → Bool
is_number greatest text = not (is_empty text) && (list_all is_ascii_digit text && (nat_le 1 (digits_value 10 text) && nat_le (digits_value 10 text) greatest))

-- the text of the option, where the words give it one, is such a number
abbrev pub fits : List Row → Text × ℕ → Bool
fits rows named = option_map_or (is_number named.1) (first_of named.0 rows) true

-- the number that the words give the option
abbrev pub number_of : List Row → Text → Option ℕ
number_of rows name = option_map (digits_value 10) (first_of name rows)

-- the words have the flag
abbrev pub has_flag : List Row → Text → Bool
has_flag rows name = option_map_or (λ text. bytes_eq text (codes "true")) (first_of name rows) false

-- the settings of what the command finds in the words: the numbers that they give, and the usual one for each other
abbrev pub settings_in : List Row → Settings
settings_in rows = record {
  workers = unwrap_or (number_of rows (codes "workers")) 4;
  budget = unwrap_or (number_of rows (codes "budget")) 1000000;
  nodes = unwrap_or (number_of rows (codes "nodes")) 200000;
  trace = has_flag rows (codes "trace");
  check = has_flag rows (codes "check");
  sample = number_of rows (codes "sample");
  verify = has_flag rows (codes "verify");
  resume = has_flag rows (codes "resume");
  fun = has_flag rows (codes "fun");
  steal = has_flag rows (codes "steal");
}

-- the settings, where they do not ask both for the check of a trace and for a start from a graph
abbrev pub unless_both : Settings → Result Settings UsageFault
unless_both s = if s.verify && s.resume then Err Both else Ok s

-- the settings of what the command finds, where each number fits its option and not both of these are asked for
abbrev pub checked_settings : List Row → Result Settings UsageFault
checked_settings rows = if list_all (fits rows) options then unless_both (settings_in rows) else Err Number

-- the command takes the words: `clap` finds no fault in them
unfoldable pub takes : List Text → Bool
takes words = is_empty (fault_of command words)

-- what the command finds in words that it takes
unfoldable pub found_in : List Text → List Row
found_in words = matches_of command words

-- what the words come to: settings, words that the command does not take, a text that is no number of its option, or two flags that exclude each other
unfoldable pub settings_of : List Text → Result Settings UsageFault
settings_of words = if takes words then checked_settings (found_in words) else Err Words
