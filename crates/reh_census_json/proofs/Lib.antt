mod BookieLaws
mod ValueLaws
