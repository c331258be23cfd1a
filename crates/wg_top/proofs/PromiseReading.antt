-- What the records of what is read say of the promise's.
use Rattle.std.proofs.Common.{◌≡◌, ℕ, List, Option, None, inl, inr}
use Rattle.wg_outside.specs.Files.{FileMap}
use Rattle.cl_meaning.specs.Typed.{Unit'}
use Rattle.command_words.specs.Command.{Files, BuildFiles, ObjectFiles}
use Rattle.launch_file.specs.declared.refusal.Refusal.{Refusal}
use Rattle.launch_file.specs.Texts.{Text}
use Rattle.wg_top.specs.declared.RunError.{RunError}
use Rattle.wg_top.specs.declared.RunError.TheVariants.{Failed, Absent, Source, Launch, Range, Parted, Turns, Memory}
use Rattle.wg_top.specs.declared.RunError.TheVariants.{NotObject}
use Rattle.wg_top.specs.Causes.{Standing, RunRead, ReadingFinds, ReadingCause, AcceptedClean, IsSourceFault}
use Rattle.wg_top.specs.Causes.{IsReadable as IsRunReadable, HasLoops as RunHasLoops}
use Rattle.wg_top.specs.Objects.{BuildFinds, BuildCause, IsFirstFault, ExecRead, ExecUnread}
use Rattle.wg_top.specs.Outcomes.{models_in}
use Rattle.wg_top.specs.Loops.{HasNoLoop}
use Rattle.wg_top.specs.Outside.{Outside, EndsClean}
use Rattle.wg_top.specs.Promise.{HasRead, HasUnread, Means, HaveUnits, IsReadable, AreCleanLaunches, ReadFinds, ReadWhy}
use Rattle.wg_top.specs.Promise.{HasLoops, EndsCleanly, SavesAll, build_files, exec_files, object_limit}
use Rattle.cl_model.specs.Lists.{Each}
use Rattle.wg_top.specs.Units.{bind_refusal}

-- ---- run, plan and code

pub means : (files : Option FileMap) (ask : Files) (Holds : Text → List Unit' → Type 0) (text : Text)
    (units : List Unit') → RunRead files ask text units → Holds text units → Means files ask Holds
means files ask Holds text units r held = record {
  bytes = r.source_bytes;
  loaded = r.source_loaded;
  launch_bytes = r.launch_bytes;
  launch_loaded = r.launch_loaded;
  text = text;
  reads = r.reads;
  holds = (units, (r.unit, r.compiled), held);
}

pub run_read : (files : Option FileMap) (ask : Files) (Holds : Text → List Unit' → Type 0)
    (m : Means files ask Holds) → RunRead files ask m.text m.holds.0
run_read files ask Holds m = record {
  source_bytes = m.bytes;
  source_loaded = m.loaded;
  launch_bytes = m.launch_bytes;
  launch_loaded = m.launch_loaded;
  reads = m.reads;
  unit = m.holds.1.0;
  compiled = m.holds.1.1;
}

pub read_finds : (files : Option FileMap) (ask : Files) (e : RunError) → ReadFinds files ask IsSourceFault e →
    ReadingFinds files ask e
read_finds files ask Absent x = x
read_finds files ask (Source condition place) x = record {
  text = x.text;
  source_bytes = x.bytes;
  source_loaded = x.loaded;
  launch_bytes = x.launch_bytes;
  launch_loaded = x.launch_loaded;
  reads = x.reads;
  fault = x.holds;
}
read_finds files ask (Launch first) x = record {
  source_bytes = x.bytes;
  source_loaded = x.loaded;
  launch_bytes = x.launch_bytes;
  launch_loaded = x.launch_loaded;
  refused = x.refused;
}
read_finds files ask Failed x = absurd x
read_finds files ask NotObject x = absurd x
read_finds files ask (Range number several group item place) x = absurd x
read_finds files ask (Parted number several group item place) x = absurd x
read_finds files ask (Turns number several) x = absurd x
read_finds files ask Memory x = absurd x

pub read_why : (old new : Standing) (ask : Files) (e : RunError) → ReadingCause old new ask e →
    ReadWhy old new ask IsSourceFault e
read_why old new ask Failed c = c
read_why old new ask Absent c = c
read_why old new ask (Source condition place) c = record {
  bytes = c.refused.source_bytes;
  loaded = c.refused.source_loaded;
  launch_bytes = c.refused.launch_bytes;
  launch_loaded = c.refused.launch_loaded;
  text = c.refused.text;
  reads = c.refused.reads;
  holds = (c.refused.fault, c.fit);
}
read_why old new ask (Launch first) c = record {
  bytes = c.source_bytes;
  loaded = c.source_loaded;
  launch_bytes = c.launch_bytes;
  launch_loaded = c.launch_loaded;
  refused = c.refused;
}
read_why old new ask Memory c = tt
read_why old new ask NotObject c = absurd c
read_why old new ask (Range number several group item place) c = absurd c
read_why old new ask (Parted number several group item place) c = absurd c
read_why old new ask (Turns number several) c = absurd c

pub run_readable : (files : Option FileMap) (ask : Files) (text : Text) (units : List Unit') →
    IsReadable files ask text (λ source. HaveUnits source text units) → IsRunReadable files ask text units
run_readable files ask text units r = record {
  source_bytes = r.bytes;
  launch_bytes = r.launch_bytes;
  source_told = r.told;
  launch_told = r.launch_told;
  reads = r.reads;
  unit = r.holds.0;
  compiled = r.holds.1;
}

pub accepted_clean : (files : Option FileMap) (ask : Files) (text : Text) (units : List Unit') →
    IsReadable files ask text (λ source. HaveUnits source text units) → AreCleanLaunches files text units →
    AcceptedClean files ask text units
accepted_clean files ask text units r c = record {
  taken = record {
    readable = run_readable files ask text units r;
    buffers_told = c.there;
    accepted = c.accepted;
  };
  clean = c.clean;
}

pub ends_cleanly : (old new : Outside) (text : Text) (units : List Unit') (n : ℕ) → bind_refusal text units ≡ None →
    EndsClean old.store.files new.store.files text units n → EndsCleanly SavesAll old new text units n
ends_cleanly old new text units n accepted (inl done) = inl (
  done.0,
  record {
    accepted = accepted;
    before = done.1.before;
    loaded = done.1.loaded;
    after = done.1.after;
    done = done.1.leaves;
    left = (done.1.saved, done.1.others);
  },
)
ends_cleanly old new text units n accepted (inr memory) = inr memory

pub has_loops : (files : Option FileMap) (ask : Files) → RunHasLoops files ask → HasLoops files ask
has_loops files ask x =
    means files ask (λ text units. Each HasNoLoop (models_in units) → ⊥) x.text x.units x.read x.loops

-- ---- build

pub build_finds : (files : Option FileMap) (ask : BuildFiles) (e : RunError) →
    ReadFinds files (build_files ask) IsFirstFault e → BuildFinds files ask e
build_finds files ask Absent x = x
build_finds files ask (Source condition place) x = record {
  source = x.bytes;
  text = x.text;
  read = record {
    source_loaded = x.loaded;
    launch_bytes = x.launch_bytes;
    launch_loaded = x.launch_loaded;
    reads = x.reads;
  };
  fault = x.holds;
}
build_finds files ask (Launch first) x = record {
  source = x.bytes;
  source_loaded = x.loaded;
  launch_bytes = x.launch_bytes;
  launch_loaded = x.launch_loaded;
  refused = x.refused;
}
build_finds files ask Failed x = absurd x
build_finds files ask NotObject x = absurd x
build_finds files ask (Range number several group item place) x = absurd x
build_finds files ask (Parted number several group item place) x = absurd x
build_finds files ask (Turns number several) x = absurd x
build_finds files ask Memory x = absurd x

pub build_why : (old new : Standing) (ask : BuildFiles) (e : RunError) → BuildCause old new ask e →
    ReadWhy old new (build_files ask) IsFirstFault e
build_why old new ask Failed c = c
build_why old new ask Absent c = c
build_why old new ask (Source condition place) c = record {
  bytes = c.refused.source;
  loaded = c.refused.read.source_loaded;
  launch_bytes = c.refused.read.launch_bytes;
  launch_loaded = c.refused.read.launch_loaded;
  text = c.refused.text;
  reads = c.refused.read.reads;
  holds = (c.refused.fault, c.fit);
}
build_why old new ask (Launch first) c = record {
  bytes = c.source;
  loaded = c.source_loaded;
  launch_bytes = c.launch_bytes;
  launch_loaded = c.launch_loaded;
  refused = c.refused;
}
build_why old new ask Memory c = tt
build_why old new ask NotObject c = absurd c
build_why old new ask (Range number several group item place) c = absurd c
build_why old new ask (Parted number several group item place) c = absurd c
build_why old new ask (Turns number several) c = absurd c

-- ---- exec

pub exec_has : (files : Option FileMap) (ask : ObjectFiles) (Holds : (bytes : List ℕ) → Text → Type 0)
    (bytes : List ℕ) (text : Text) → ExecRead files ask bytes text → Holds bytes text →
    HasRead files object_limit (exec_files ask) Holds
exec_has files ask Holds bytes text r held = record {
  bytes = bytes;
  loaded = r.object_loaded;
  launch_bytes = r.launch_bytes;
  launch_loaded = r.launch_loaded;
  text = text;
  reads = r.reads;
  holds = held;
}

pub exec_unread : (files : Option FileMap) (ask : ObjectFiles) (first : Refusal) → ExecUnread files ask first →
    HasUnread files object_limit (exec_files ask) first
exec_unread files ask first x = record {
  bytes = x.bytes;
  loaded = x.object_loaded;
  launch_bytes = x.launch_bytes;
  launch_loaded = x.launch_loaded;
  refused = x.refused;
}

pub unread_exec : (files : Option FileMap) (ask : ObjectFiles) (first : Refusal) →
    HasUnread files object_limit (exec_files ask) first → ExecUnread files ask first
unread_exec files ask first x = record {
  bytes = x.bytes;
  object_loaded = x.loaded;
  launch_bytes = x.launch_bytes;
  launch_loaded = x.launch_loaded;
  refused = x.refused;
}
