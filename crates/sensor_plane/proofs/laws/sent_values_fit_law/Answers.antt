use Rattle.sensor_plane.proofs.Sending.{sent_values_fit}
use Rattle.sensor_plane.proofs.laws.sent_values_fit_law.Goals as goal

pub returns : goal.returns
returns c = sent_values_fit
