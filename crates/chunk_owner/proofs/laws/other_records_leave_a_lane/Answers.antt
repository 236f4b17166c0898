use Rattle.chunk_owner.proofs.OtherKeys.{others_leave_described, others_leave_described_lane, others_leave_lane, others_leave_said}
use Rattle.chunk_owner.proofs.laws.other_records_leave_a_lane.Goals as goal

pub returns : goal.returns
returns c = record { said = others_leave_said; described = others_leave_described; lane = others_leave_lane; objects = others_leave_described_lane }
