use Rattle.mvt_fault.specs.declared.profile.Profile.TheVariants.{Feature}
use Rattle.mvt_rules.proofs.Validity.UnshownMeetings.{all_apart, none_meets}
use Rattle.mvt_rules.proofs.laws.validity.all_pairs_of_a_feature.Goals as goal

pub returns-clause-polygons : goal.returns-clause-polygons
returns-clause-polygons c rings sound = (
  λ apart. all_apart rings sound apart,
  λ all polygon it there first second point first_in second_in. all first second point,
)

pub returns-clause-shown : goal.returns-clause-shown
returns-clause-shown c feature_record rings has sound = (
  λ none. all_apart rings sound
      (λ polygon it there first second point first_in second_in.
      none_meets Feature feature_record.kind feature_record.geometry rings polygon it first second point has (record { sound = sound; there = there }) (none polygon) first_in second_in),
  λ all polygon first second point meeting. all first second point meeting.meets,
)
