-- Small examples of surveys, worked out by evaluation.
use Rattle.std.proofs.Common.{◌≡◌, ℕ, [], ◌∷◌, Some, None, true, refl}
use Rattle.inet_num.specs.Count.{addresses_of, numbers_from}
use Rattle.ipam_data.specs.declared.kinds.Table.{Table}
use Rattle.ipam_data.specs.declared.kinds.Table.TheVariants.{Global, Of}
use Rattle.ipam_data.specs.declared.prefix.PrefixStatus.TheVariants.{Active}
use Rattle.ipam_data.specs.State.{State, empty_state}
use Rattle.ipam_data.specs.Vrfs.{vrf_fault}
use Rattle.ipam_data.specs.Prefixes.{prefix_fault, depth_of}
use Rattle.ipam_data.proofs.Samples.{after, vrf, prefix, v4}
use Rattle.ipam_data.specs.declared.survey.PrefixLine.{PrefixLine}
use Rattle.ipam_data.specs.Survey.{survey_of}

abbrev line : Table → ℕ → ℕ → ℕ → PrefixLine
line table depth first len = record { table = table; depth = depth; block = v4 first len; status = Active; percent = 0 }

-- without prefixes there are no lines
none : survey_of (empty_state true) ≡ []
none = refl

-- the global table comes before that of a VRF, an outer block before an inner one, and a lower block before a higher one
abbrev some : State
some = after (empty_state true) (vrf true ∷ prefix 32 30 (Some 1) None ∷ prefix 20 30 None None ∷ prefix 16 30 None None ∷ prefix 16 28 None None ∷ [])

in_order : survey_of some ≡ line Global 0 16 28 ∷ line Global 1 16 30 ∷ line Global 1 20 30 ∷ line (Of 1) 0 32 30 ∷ []
unfolding vrf_fault prefix_fault depth_of addresses_of numbers_from
in_order = refl
