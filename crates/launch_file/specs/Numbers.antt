-- The number and the text of each refusal.
use Rattle.std.specs.Prelude.{ℕ, List, codes}
use Rattle.launch_file.specs.declared.refusal.Refusal.{Refusal}
use Rattle.launch_file.specs.declared.refusal.Refusal.TheVariants as refusal

-- the number that is printed behind `L`
abbrev pub number_of : Refusal → ℕ
number_of refusal.NotToml = 1
number_of refusal.UnknownKey = 2
number_of refusal.KeyMissing = 3
number_of refusal.Sizes = 4
number_of refusal.ArgumentCount = 5
number_of refusal.ArgumentKind = 6
number_of refusal.ValueOutOfRange = 7
number_of refusal.UnknownBuffer = 8
number_of refusal.BufferNamedTwice = 9
number_of refusal.SavedTwice = 10
number_of refusal.ConstantBufferShared = 11
number_of refusal.RequiredSize = 12
number_of refusal.LocalMemory = 13
number_of refusal.Buffers = 14
number_of refusal.Lanes = 15
number_of refusal.Turns = 16
number_of refusal.Launches = 17
number_of refusal.OtherKernel = 18
number_of refusal.SavedUnderCacheName = 19

-- the text that is printed behind the number
abbrev pub text_of : Refusal → List ℕ
text_of refusal.NotToml = codes "not TOML"
text_of refusal.UnknownKey = codes "unknown key"
text_of refusal.KeyMissing = codes "key missing or wrong"
text_of refusal.Sizes = codes "sizes"
text_of refusal.ArgumentCount = codes "argument count"
text_of refusal.ArgumentKind = codes "argument kind"
text_of refusal.ValueOutOfRange = codes "value out of range"
text_of refusal.UnknownBuffer = codes "unknown buffer"
text_of refusal.BufferNamedTwice = codes "buffer named twice"
text_of refusal.SavedTwice = codes "saved twice"
text_of refusal.ConstantBufferShared = codes "constant buffer shared"
text_of refusal.RequiredSize = codes "required size"
text_of refusal.LocalMemory = codes "local memory"
text_of refusal.Buffers = codes "buffers"
text_of refusal.Lanes = codes "lanes"
text_of refusal.Turns = codes "turns"
text_of refusal.Launches = codes "launches"
text_of refusal.OtherKernel = codes "other kernel"
text_of refusal.SavedUnderCacheName = codes "saved under a cache name"
