use Rattle.rest_session.proofs.DoneBytes.{apart, has_503, has_507, said_byte, unkept_byte}
use Rattle.rest_session.specs.Responses.{said}
use Rattle.rest_session.proofs.laws.what_is_done_is_told_apart.Goals as goal

pub returns : goal.returns
returns c =
    let done = c.answers_have_done_statuses.ensures in
    record {
      unavailable = λ w v caller request answer status body path close steps is has.
          let bytes = said path answer.what close in
          apart bytes (said_byte answer.what status body path close (done w caller request answer v steps) is) (has_503 bytes has);
      insufficient = λ w v caller request answer status body path close steps is has.
          let bytes = said path answer.what close in
          apart bytes (said_byte answer.what status body path close (done w caller request answer v steps) is) (has_507 bytes has);
      unkept = λ w v caller request answer status body path close shut why steps is unkept.
          let bytes = said path answer.what close in
          apart bytes (said_byte answer.what status body path close (done w caller request answer v steps) is) (unkept_byte why shut bytes unkept);
    }
