-- The command that `clap` reads.
use Rattle.std.specs.Prelude.{◌≡◌, ℕ, List, [], Option, Some, None, true, false, pos, codes}
use Rattle.clap.specs.Words.{App, Row, Rule, Text, all_of, app_of, fault_of, first_of, matched_of, new_app, new_rule}
use Rattle.clap.specs.Words.{one_of, one_text, subcommand_of, with_rule, with_subcommand}
use Rattle.std.specs.Str.Parse.{IsNumeral, without_leading_plus, digits_value}
use Rattle.clap.specs.declared.parser.matches.Found.{Found}
use Rattle.command_words.specs.declared.FileWords.{FileWords}
use Rattle.command_words.specs.declared.BuildWords.{BuildWords}
use Rattle.command_words.specs.declared.ObjectWords.{ObjectWords}
use Rattle.command_words.specs.declared.Words.{Words}
use Rattle.command_words.specs.declared.Words.TheVariants.{Run, Cached, Plan, Code, Sample, Build, Exec}
use Rattle.clap.specs.declared.builder.action.ArgAction.TheVariants.{Set, SetTrue}
use Rattle.clap.specs.declared.builder.command.Command.{Command}
use Rattle.clap.specs.declared.builder.command.Command.TheViews.{out-Command}
use Rattle.clap.specs.declared.builder.value_parser.ValueParser.TheVariants as vp

-- a required argument
abbrev pub argument : Text → Rule
argument name = record (new_rule name) { required = true; action = Some Set }

-- an option with a number of 64 bits
abbrev pub option : Text → Rule
option name =
    record (new_rule name) { long = Some name; action = Some Set; parser = Some (vp.Unsigned 0 18446744073709551615) }

-- a required number of 32 bits
abbrev pub number : Text → Rule
number name =
    record (new_rule name) { required = true; action = Some Set; parser = Some (vp.Signed (pos 0) (pos 4294967295)) }

-- a flag
abbrev pub flag : Text → Rule
flag name = record (new_rule name) { long = Some name; action = Some SetTrue }

-- run SOURCE LAUNCH [--lanes N] [--turns N]
abbrev pub uncached_app : App
uncached_app = with_rule (with_rule (with_rule (with_rule (new_app (codes "run")) (argument (codes "SOURCE")))
    (argument (codes "LAUNCH"))) (option (codes "lanes"))) (option (codes "turns"))

-- the same with [--cache]
abbrev pub run_app : App
run_app = with_rule uncached_app (flag (codes "cache"))

-- plan SOURCE LAUNCH
abbrev pub plan_app : App
plan_app = with_rule (with_rule (new_app (codes "plan")) (argument (codes "SOURCE"))) (argument (codes "LAUNCH"))

-- code SOURCE LAUNCH [--lanes N]
abbrev pub code_app : App
code_app = with_rule (with_rule (with_rule (new_app (codes "code")) (argument (codes "SOURCE")))
    (argument (codes "LAUNCH"))) (option (codes "lanes"))

-- sample NUMBER
abbrev pub sample_app : App
sample_app = with_rule (new_app (codes "sample")) (number (codes "NUMBER"))

-- build SOURCE LAUNCH OBJECT [--lanes N]
abbrev pub build_app : App
build_app = with_rule (with_rule (with_rule (with_rule (new_app (codes "build")) (argument (codes "SOURCE")))
    (argument (codes "LAUNCH"))) (argument (codes "OBJECT"))) (option (codes "lanes"))

-- exec OBJECT LAUNCH [--turns N]
abbrev pub exec_app : App
exec_app = with_rule (with_rule (with_rule (new_app (codes "exec")) (argument (codes "OBJECT")))
    (argument (codes "LAUNCH"))) (option (codes "turns"))

-- help and version are off, the program's name is no word, and a subcommand is required
abbrev pub bare_app : App
bare_app = record (new_app (codes "wgcc")) {
  top = record (new_app (codes "wgcc")).top {
    no_binary_name = true;
    disable_help_flag = true;
    disable_help_subcommand = true;
    disable_version_flag = true;
    subcommand_required = true;
  };
}

-- the whole command
abbrev pub wgcc_app : App
wgcc_app = with_subcommand (with_subcommand (with_subcommand (with_subcommand (with_subcommand
    (with_subcommand bare_app run_app.top) plan_app.top) code_app.top) sample_app.top) build_app.top) exec_app.top

-- a command is of that definition
pub record IsCommandOf (app : App) (command : Command) : Type 0 where
  pub is : app_of command ≡ app
  pub local : (out-Command command).has_globals ≡ false

-- the command takes the words
abbrev pub TakesWords : List Text → Type 0
TakesWords words = fault_of wgcc_app words ≡ []

-- the number at an option, by what was found: none where it is not given, and else the one whose numeral its text is
abbrev pub IsNumberFound : Text → Found → Option ℕ → Type 0
IsNumberFound id found None = matched_of found id ≡ None
IsNumberFound id found (Some n) = (text : Text) × (one_text found id ≡ Some text) ×
    IsNumeral 10 (without_leading_plus text) × (digits_value 10 (without_leading_plus text) ≡ n)

-- the number at an option, by the rows of a command: none where it is not given, and else the one whose numeral its
-- text is
abbrev pub IsNumberAt : Text → List Row → Option ℕ → Type 0
IsNumberAt id rows None = all_of id rows ≡ None
IsNumberAt id rows (Some n) = (text : Text) × (one_of id rows ≡ Some text) ×
    IsNumeral 10 (without_leading_plus text) × (digits_value 10 (without_leading_plus text) ≡ n)

-- the names of the source and of the launch file, and the numbers of the options that are given
pub record Files : Type 0 where
  pub source : Text
  pub launch : Text
  pub lanes : Option ℕ
  pub turns : Option ℕ

-- the names of the source, of the launch file and of the object file that is saved, and the number of the option if it
-- is given
pub record BuildFiles : Type 0 where
  pub source : Text
  pub launch : Text
  pub object : Text
  pub lanes : Option ℕ

-- the names of the object file and of the launch file, and the number of the option if it is given
pub record ObjectFiles : Type 0 where
  pub object : Text
  pub launch : Text
  pub turns : Option ℕ

-- what is asked for
pub data Request : Type 0 where
  run : (files : Files) → Request
  -- a run with the cache
  cached : (files : Files) → Request
  plan : (files : Files) → Request
  code : (files : Files) → Request
  sample : (number : ℕ) → Request
  build : (files : BuildFiles) → Request
  exec : (files : ObjectFiles) → Request

-- the plain view of the files
abbrev pub files_of : FileWords → Files
files_of w = record { source = w.source.now; launch = w.launch.now; lanes = w.lanes; turns = w.turns }

abbrev pub build_of : BuildWords → BuildFiles
build_of w = record { source = w.source.now; launch = w.launch.now; object = w.object.now; lanes = w.lanes }

abbrev pub object_of : ObjectWords → ObjectFiles
object_of w = record { object = w.object.now; launch = w.launch.now; turns = w.turns }

-- the plain view of what is asked for
abbrev pub request_of : Words → Request
request_of (Run files) = run (files_of files)
request_of (Cached files) = cached (files_of files)
request_of (Plan files) = plan (files_of files)
request_of (Code files) = code (files_of files)
request_of (Sample n) = sample n
request_of (Build files) = build (build_of files)
request_of (Exec files) = exec (object_of files)

-- the rows name these files and give these numbers
pub record NamesFiles (rows : List Row) (files : Files) : Type 0 where
  pub source : first_of (codes "SOURCE") rows ≡ Some files.source
  pub launch : first_of (codes "LAUNCH") rows ≡ Some files.launch
  pub lanes : IsNumberAt (codes "lanes") rows files.lanes
  pub turns : IsNumberAt (codes "turns") rows files.turns

pub record NamesBuild (rows : List Row) (files : BuildFiles) : Type 0 where
  pub source : first_of (codes "SOURCE") rows ≡ Some files.source
  pub launch : first_of (codes "LAUNCH") rows ≡ Some files.launch
  pub object : first_of (codes "OBJECT") rows ≡ Some files.object
  pub lanes : IsNumberAt (codes "lanes") rows files.lanes

pub record NamesObject (rows : List Row) (files : ObjectFiles) : Type 0 where
  pub object : first_of (codes "OBJECT") rows ≡ Some files.object
  pub launch : first_of (codes "LAUNCH") rows ≡ Some files.launch
  pub turns : IsNumberAt (codes "turns") rows files.turns

-- a flag is given
abbrev pub HasFlag : Text → List Row → Type 0
HasFlag id rows = first_of id rows ≡ Some (codes "true")

-- a command by its name and its rows
abbrev pub IsAsked : Text → List Row → Request → Type 0
IsAsked name rows (run files) = (name ≡ codes "run") × NamesFiles rows files × (HasFlag (codes "cache") rows → ⊥)
IsAsked name rows (cached files) = (name ≡ codes "run") × NamesFiles rows files × HasFlag (codes "cache") rows
IsAsked name rows (plan files) = (name ≡ codes "plan") × NamesFiles rows files
IsAsked name rows (code files) = (name ≡ codes "code") × NamesFiles rows files
IsAsked name rows (sample n) = (name ≡ codes "sample") × IsNumberAt (codes "NUMBER") rows (Some n)
IsAsked name rows (build files) = (name ≡ codes "build") × NamesBuild rows files
IsAsked name rows (exec files) = (name ≡ codes "exec") × NamesObject rows files

-- a command was named, and it is this one
abbrev pub Asks : Option (Text × List Row) → Request → Type 0
Asks None request = ⊥
Asks (Some command) request = IsAsked command.0 command.1 request

-- the words ask for this
abbrev pub AskFor : List Text → Request → Type 0
AskFor words request = Asks (subcommand_of wgcc_app words) request
